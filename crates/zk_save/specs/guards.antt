pub mod Examples
pub mod Spelling
