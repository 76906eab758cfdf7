pub mod Gathering
pub mod Source
pub mod SourceStop
