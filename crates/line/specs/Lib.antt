pub mod Steps
pub mod Runs
pub mod Initial
pub mod Inside
pub mod Words
