pub mod AddressWords
pub mod Collecting
pub mod Covered
pub mod LineLoops
pub mod Unions
pub mod Versions
pub mod guards
