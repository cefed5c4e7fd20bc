pub mod Rows
pub mod Years
