pub mod Doors
pub mod Each
pub mod Ends
