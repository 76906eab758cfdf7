pub mod Along
pub mod Growth
pub mod Rest
pub mod Trail
