pub mod Attempting
pub mod Faults
pub mod Planning
pub mod Preferring
pub mod Roots
pub mod Selecting
pub mod Settling
