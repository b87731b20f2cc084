pub mod Blocks
pub mod Finding
pub mod Claims
