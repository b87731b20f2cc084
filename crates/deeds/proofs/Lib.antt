pub mod Good
pub mod Numbered
pub mod Requests
