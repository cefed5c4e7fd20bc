pub mod Kept
pub mod Counted
pub mod Ahead
pub mod Cutting
pub mod Added
pub mod Equal
