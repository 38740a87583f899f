pub mod Drawings
pub mod Extents
pub mod Messages
pub mod Nearest
pub mod Tracks
