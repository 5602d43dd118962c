pub mod Examples
pub mod MarkLaws
