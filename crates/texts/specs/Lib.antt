pub mod Appending
pub mod Cuts
pub mod Examples
pub mod NumberText
pub mod NumberWords
pub mod OutcomeText
