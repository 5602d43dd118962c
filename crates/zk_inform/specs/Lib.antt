pub mod Bytes
pub mod Documents
pub mod Last
pub mod Markup
pub mod Names
pub mod Tables
pub mod guards
