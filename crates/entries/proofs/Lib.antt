pub mod Kind
pub mod With
pub mod Alone
pub mod Slice
pub mod Rows
