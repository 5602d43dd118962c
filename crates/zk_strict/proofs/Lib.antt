pub mod Stacks
pub mod Taken
pub mod Told
pub mod guards
