pub mod InForce
pub mod Counted
pub mod Steps
