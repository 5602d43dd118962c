pub mod Ends
pub mod Faults
pub mod Objects
pub mod guards
