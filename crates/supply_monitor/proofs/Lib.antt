pub mod Four
pub mod Turns
