pub mod Follows
pub mod Gaps
