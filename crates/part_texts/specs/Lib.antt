pub mod Causes
pub mod Examples
pub mod FitsPart
pub mod NextParts
pub mod PartText
pub mod PlainHead
pub mod Standings
pub mod Streams
