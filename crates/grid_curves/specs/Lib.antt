pub mod Curves
pub mod Four
