pub mod NothingNamed
pub mod Opened
