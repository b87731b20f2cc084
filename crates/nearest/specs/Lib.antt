pub mod Counting
pub mod Claims
