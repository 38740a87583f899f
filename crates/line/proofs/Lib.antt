pub mod Running
pub mod Counting
pub mod Beginnings
pub mod Nearing
