pub mod Answer
pub mod Marks
