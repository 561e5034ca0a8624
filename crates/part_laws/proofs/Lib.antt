pub mod FoundParts
pub mod JoinedParts
pub mod OutcomeCounts
pub mod OutcomeEnds
