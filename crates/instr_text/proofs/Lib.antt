pub mod CutLemmas
pub mod ExpandedLemmas
pub mod Fronts
pub mod PieceLemmas
pub mod SplitLemmas
pub mod Steps
