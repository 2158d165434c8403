pub mod Drives
pub mod Outputs
