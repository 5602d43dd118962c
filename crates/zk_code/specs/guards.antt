pub mod CleanExamples
pub mod Examples
pub mod ExtentExamples
pub mod ReachExamples
