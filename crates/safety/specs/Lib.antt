pub mod State
pub mod Events
pub mod Promises
pub mod Day
