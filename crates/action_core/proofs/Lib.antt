pub mod Boxes
pub mod Links
pub mod Lookups
pub mod Params
pub mod Tested
pub mod Undoing
pub mod Unders
