mod Pieces
mod Taken
mod ThingKinds
mod Walks
pub mod guards
