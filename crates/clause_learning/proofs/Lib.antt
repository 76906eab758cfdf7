pub mod HintLaws
pub mod MarkLaws
pub mod LearnedLaws
