pub mod NamedLaws
pub mod TextLaws
