pub mod Rule
pub mod Steps
pub mod Train
pub mod InitialTrain
pub mod Laws
pub mod Day
