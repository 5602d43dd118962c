pub mod Looseness
pub mod Handling
pub mod Hearing
pub mod Exporting
pub mod Collecting
mod Marking
pub mod Encoding
pub mod Naming
pub mod Hashing
pub mod Seeing
pub mod Running
pub mod Listings
pub mod guards
