pub mod Cuts
pub mod Dividing
pub mod GreaterRoom
pub mod LogLimits
pub mod Opened
pub mod Popping
pub mod Within
