pub mod Refusals
pub mod Limits
pub mod Memory
pub mod Distance
pub mod Laws
pub mod Words
