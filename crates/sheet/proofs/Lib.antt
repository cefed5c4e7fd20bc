pub mod Windows
pub mod Bytes
pub mod Answered
pub mod Exactly
pub mod Back
