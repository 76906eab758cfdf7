pub mod Found
pub mod HostFault
pub mod PlaceText
