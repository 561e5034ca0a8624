pub mod Balances
pub mod CountedOff
pub mod Members
pub mod Ranges
pub mod Sums
