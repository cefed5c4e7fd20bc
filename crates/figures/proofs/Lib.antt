pub mod Taken
pub mod Readings
pub mod Peak
pub mod Agree
pub mod TwoReadings
pub mod Sum
