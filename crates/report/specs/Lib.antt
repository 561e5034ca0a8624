pub mod Bounds
pub mod Examples
pub mod PlainCheck
pub mod PlainReport
pub mod ReportText
pub mod YieldText
