pub mod Faults
pub mod Heard
