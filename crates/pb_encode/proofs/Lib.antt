pub mod FoundLaws
pub mod IdLaws
pub mod MemberLaws
pub mod OrderLaws
pub mod PlaceLaws
pub mod RowLaws
pub mod UnitLaws
