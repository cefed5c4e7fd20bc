pub mod Bytes
pub mod Common
pub mod Header
pub mod Days
pub mod Driven
pub mod Fed
pub mod Machine
