pub mod Bytes
pub mod Fields
pub mod RangePlaces
pub mod Sequences
mod RangeSpelling
pub mod VersionOrderLaws
mod VersionProgress
pub mod VersionPlaces
mod VersionRuns
mod VersionSpelling
pub mod VersionViews
