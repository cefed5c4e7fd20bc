pub mod Steps
pub mod Only
pub mod Exactly
pub mod Whole
