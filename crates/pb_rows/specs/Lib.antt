pub mod Deciding
pub mod Members
pub mod Normalising
pub mod Rows
