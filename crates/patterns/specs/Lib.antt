pub mod Examples
pub mod Matching
pub mod PatternText
