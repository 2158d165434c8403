pub mod Blocks
pub mod Operations
pub mod BlocksStand
pub mod Stands
