pub mod Apart
pub mod Folders
pub mod GatherSteps
pub mod Gatherings
pub mod Paths
pub mod Steps
