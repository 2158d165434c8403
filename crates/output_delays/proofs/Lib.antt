pub mod Latest
pub mod Requested
