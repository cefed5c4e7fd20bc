pub mod Days
pub mod Rows
