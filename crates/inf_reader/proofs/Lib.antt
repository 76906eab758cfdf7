pub mod EntryLemmas
pub mod FormLemmas
pub mod NameLemmas
pub mod PlaceLemmas
pub mod ReadingLemmas
pub mod RowLemmas
pub mod Steps
pub mod UnitLemmas
