pub mod Holidays
