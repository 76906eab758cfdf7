pub mod GivenCalls
pub mod GivenForms
pub mod GivenParams
pub mod NameForms
pub mod ParamSteps
pub mod PieceSteps
pub mod Walks
