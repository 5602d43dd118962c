pub mod Arrays
pub mod Laws
pub mod Misuses
pub mod Stack
pub mod Texts
pub mod Values
pub mod guards
