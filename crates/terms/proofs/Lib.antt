pub mod Answered
pub mod Exactly
pub mod Only
