pub mod EmittedTexts
pub mod EndTexts
pub mod FirstMatch
pub mod JustOneText
pub mod PatternRows
