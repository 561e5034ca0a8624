pub mod Judging
pub mod Lookers
pub mod Statements
