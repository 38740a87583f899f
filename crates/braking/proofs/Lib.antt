pub mod Checks
pub mod Distances
