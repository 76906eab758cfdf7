pub mod Draft
pub mod UnitReading
pub mod UnitText
