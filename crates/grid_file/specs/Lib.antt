pub mod Grid
pub mod GridMachine
pub mod GridLaws
