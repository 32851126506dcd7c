pub mod Choices
pub mod Parts
