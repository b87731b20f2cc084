pub mod Leaps
pub mod Trials
pub mod History
pub mod Winder
pub mod AtOnce
