pub mod Tabled
pub mod Kept
pub mod Laid
pub mod Back
