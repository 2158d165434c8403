pub mod Asked
pub mod Heads
pub mod Looks
pub mod Paths
pub mod Rooms
pub mod Statuses
pub mod Taking
