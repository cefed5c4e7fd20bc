pub mod Rules
pub mod Weeks
