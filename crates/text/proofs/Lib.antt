pub mod Cuts
pub mod Decimals
pub mod TextLines
pub mod GoingOn
pub mod OnePass
pub mod Written
