pub mod Ranges
pub mod Limits
