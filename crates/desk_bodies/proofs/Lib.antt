pub mod PlaceLists
pub mod Members
