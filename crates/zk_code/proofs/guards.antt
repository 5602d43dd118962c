pub mod CleanByExample
pub mod ExtentsByExample
pub mod Opened
pub mod ReachedByExample
