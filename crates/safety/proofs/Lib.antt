pub mod Safe
pub mod Fresh
pub mod Always
pub mod Worked
pub mod Coming
