pub mod Asking
pub mod InPlace
pub mod IsProblem
pub mod Places
pub mod UnitsOf
