pub mod Steps
pub mod Hearings
pub mod Laws
