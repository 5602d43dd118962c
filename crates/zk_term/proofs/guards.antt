pub mod KeptCursors
pub mod Opened
pub mod PrintedRows
pub mod Tallest
pub mod WrappedLines
