pub mod ByteExamples
pub mod Bytes
pub mod Numbers
pub mod Wholes
