pub mod Applies
pub mod Matches
pub mod Met
pub mod Profile
pub mod Slice
pub mod UnitId
pub mod Valid
