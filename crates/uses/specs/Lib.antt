pub mod Expansions
pub mod KindExamples
pub mod Uses
