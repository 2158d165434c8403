pub mod Quiet
pub mod Stands
