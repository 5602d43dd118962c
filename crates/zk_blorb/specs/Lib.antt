pub mod Blorb
pub mod Looks
pub mod Seen
pub mod guards
