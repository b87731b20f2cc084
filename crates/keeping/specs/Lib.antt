pub mod Layout
pub mod Keeping
