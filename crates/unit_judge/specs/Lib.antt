pub mod Judged
pub mod Leading
pub mod Reaching
