pub mod Grown
pub mod SameStates
pub mod Unique
pub mod Again
