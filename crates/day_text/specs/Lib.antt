pub mod Asked
pub mod Text
