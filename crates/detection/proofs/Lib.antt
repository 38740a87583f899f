pub mod Among
pub mod Apart
pub mod Sums
pub mod Quarters
pub mod Few
