mod Ascii
mod Drafts
mod Firsts
mod Outcomes
mod Puts
mod Runs
mod Takes
pub mod Forms
pub mod Rebuilt
pub mod Walks
mod Writes
