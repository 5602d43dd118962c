pub mod ArrayExamples
pub mod Examples
pub mod TreeLaws
