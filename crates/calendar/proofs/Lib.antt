pub mod Marked
pub mod Answers
