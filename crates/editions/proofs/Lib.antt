pub mod Picked
pub mod Refused
pub mod Lists
