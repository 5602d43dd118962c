pub mod Examples
pub mod WindowLaws
pub mod WrappingLaws
