pub mod Entries
pub mod Maps
pub mod Moments
pub mod PathOrder
pub mod Paths
