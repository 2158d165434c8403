pub mod Disks
pub mod Moves
