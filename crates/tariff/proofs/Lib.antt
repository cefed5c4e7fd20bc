pub mod Limits
pub mod Charges
pub mod Answered
pub mod Only
pub mod Taken
pub mod Exactly
pub mod Demand
