pub mod Laws
pub mod Short
pub mod Cases
pub mod Line
