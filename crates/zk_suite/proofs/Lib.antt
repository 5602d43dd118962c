pub mod Differing
pub mod Findings
pub mod LineCuts
pub mod ScriptLines
pub mod guards
