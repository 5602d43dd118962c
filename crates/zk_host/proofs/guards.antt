pub mod MarkLaws
pub mod Opened
