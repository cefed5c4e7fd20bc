pub mod Runs
pub mod Cases
