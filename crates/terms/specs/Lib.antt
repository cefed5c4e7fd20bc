pub mod Basis
pub mod Opening
pub mod Rows
