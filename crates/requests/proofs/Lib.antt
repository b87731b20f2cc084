pub mod Passed
pub mod Choices
mod Answered
