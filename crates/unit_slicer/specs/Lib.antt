pub mod Adding
pub mod Found
pub mod Members
pub mod NameOrder
pub mod Reached
pub mod RootedPart
pub mod Way
pub mod WholeCatalog
