pub mod Scales
pub mod Shares
