pub mod Prices
pub mod Charges
pub mod Answers
pub mod Decision
pub mod Rows
pub mod Demand
