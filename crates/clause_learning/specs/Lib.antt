pub mod Asserting
pub mod Collected
pub mod Explained
pub mod Marks
pub mod Reasons
