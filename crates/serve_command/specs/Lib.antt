pub mod Doors
pub mod Serving
pub mod Acting
