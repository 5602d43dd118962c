pub mod CheckExamples
pub mod Examples
pub mod ListExamples
pub mod LowExamples
pub mod NameExamples
pub mod NoteExamples
