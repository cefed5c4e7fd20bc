pub mod Laid
pub mod Curves
pub mod Fours
pub mod OneReading
