mod Cuts
pub mod Digits
pub mod FirstWords
