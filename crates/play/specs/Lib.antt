pub mod Played
pub mod Ticks
