pub mod Editions
pub mod Loading
