pub mod Appending
pub mod Bytes
