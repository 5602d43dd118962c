pub mod Stories
pub mod Plays
pub mod Readings
pub mod Reports
pub mod Verdicts
pub mod Listings
pub mod Covers
