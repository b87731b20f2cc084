pub mod Saves
pub mod Loads
pub mod RoundTrip
pub mod History
