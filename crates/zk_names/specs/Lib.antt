pub mod Documents
pub mod Nodes
pub mod Places
pub mod Said
pub mod Things
pub mod guards
