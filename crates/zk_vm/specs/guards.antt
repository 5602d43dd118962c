pub mod Examples
pub mod SavingExamples
