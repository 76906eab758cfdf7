pub mod PlaceText
