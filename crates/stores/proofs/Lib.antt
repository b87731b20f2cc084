pub mod Writing
pub mod Puts
