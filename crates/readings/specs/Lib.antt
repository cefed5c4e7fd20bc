pub mod Runs
pub mod Near
pub mod Legal
pub mod Illegal
pub mod Part
pub mod Days
pub mod Rows
pub mod Plain
