pub mod Layout
pub mod Common
pub mod Series
pub mod File
pub mod Stages
pub mod Machine
