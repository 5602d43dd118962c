pub mod Examples
pub mod InstructionExamples
pub mod ObjectExamples
pub mod OutputExamples
pub mod PrintingExamples
pub mod ReadingExamples
pub mod RoutineExamples
pub mod SavingExamples
