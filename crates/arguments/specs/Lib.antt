pub mod AskedDays
pub mod Asked
