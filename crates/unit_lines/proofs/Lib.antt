pub mod Injective
pub mod LineLemmas
mod Numerals
mod RangeOnce
mod Readings
pub mod Spellings
mod WordLemmas
