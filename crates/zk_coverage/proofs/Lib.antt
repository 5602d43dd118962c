pub mod Covered
pub mod Spans
pub mod Marks
pub mod Hex
pub mod Summaries
pub mod Outcomes
