pub mod Counts
pub mod Year
