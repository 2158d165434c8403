pub mod Later
pub mod Words
pub mod Facts
pub mod Faults
pub mod Outputs
pub mod Calls
