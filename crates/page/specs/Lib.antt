pub mod Laws
pub mod Page
pub mod Scales
