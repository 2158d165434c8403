pub mod Doors
pub mod MemoryDoors
pub mod Passing
