pub mod Opened
pub mod SavedLoads
pub mod Spellings
