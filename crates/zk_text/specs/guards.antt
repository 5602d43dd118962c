pub mod Examples
pub mod KeyLaws
pub mod TableLaws
