pub mod Periods
pub mod Sundays
