pub mod Sums
pub mod Snapshots
pub mod Opening
pub mod Laws
