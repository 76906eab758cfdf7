pub mod Line
pub mod Parts
pub mod Phases
pub mod Reading
pub mod Words
