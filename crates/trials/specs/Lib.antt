pub mod Trials
pub mod History
pub mod Frames
pub mod Winder
