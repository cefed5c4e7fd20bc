pub mod Windows
pub mod Bytes
pub mod Answers
pub mod Rows
