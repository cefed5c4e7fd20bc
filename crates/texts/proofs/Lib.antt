pub mod Text
pub mod Writing
pub mod Only
pub mod Cases
