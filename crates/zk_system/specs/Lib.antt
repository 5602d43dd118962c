pub mod SaveFiles
pub mod ScriptFiles
pub mod NoFile
pub mod Records
pub mod Files
pub mod Terminals
pub mod StyleCodes
