pub mod Slots
pub mod Claims
pub mod Rows
