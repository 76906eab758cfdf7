pub mod Answers
pub mod Ending
pub mod Levels
pub mod Lines
pub mod SearchHolds
pub mod Spending
pub mod Values
pub mod Wanted
