pub mod Nothing
pub mod Trains
pub mod Heads
pub mod More
