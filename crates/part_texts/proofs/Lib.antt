pub mod JustOnes
pub mod LineSizes
pub mod NoLines
pub mod ReadTexts
pub mod SameLines
pub mod SameParts
pub mod WholeParts
pub mod WholeTexts
