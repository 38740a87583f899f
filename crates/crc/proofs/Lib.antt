pub mod Fours
pub mod Linear
pub mod Numbers
pub mod Range
