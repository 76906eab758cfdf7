mod AddingLaws
mod FindingLaws
mod MarkingLaws
mod OrderLaws
pub mod RootedLaws
mod SliceLaws
pub mod WholeCatalogLaws
