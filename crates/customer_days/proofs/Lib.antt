pub mod Steps
pub mod Exactly
pub mod Only
pub mod Whole
