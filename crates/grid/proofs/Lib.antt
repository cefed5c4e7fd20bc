pub mod Answered
pub mod Only
pub mod Exactly
pub mod RowsLeft
