pub mod Words
pub mod Numbers
pub mod Lines
pub mod Written
pub mod Plain
