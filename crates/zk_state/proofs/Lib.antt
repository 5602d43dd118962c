pub mod BoundsKept
pub mod Calls
pub mod Oldest
pub mod Returning
pub mod Unwinding
pub mod Views
pub mod guards
