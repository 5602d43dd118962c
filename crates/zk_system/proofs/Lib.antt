pub mod NoFile
pub mod Bounded
