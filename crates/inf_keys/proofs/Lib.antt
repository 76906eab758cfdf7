mod AsciiLemmas
mod CaseNames
mod CutLemmas
pub mod KeyLaws
mod NumberLemmas
mod OrderLemmas
mod PartAgain
mod PartFound
mod RowLemmas
mod TableLemmas
