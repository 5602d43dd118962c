pub mod Meanings
pub mod SourceLines
pub mod Words
pub mod guards
