pub mod Balance
pub mod EveryNth
pub mod Examples
