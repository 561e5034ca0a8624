pub mod Choices
pub mod Examples
