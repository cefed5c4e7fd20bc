pub mod OneDay
pub mod Sunday
pub mod Search
pub mod DaySums
pub mod Masks
pub mod Fits
pub mod Days
