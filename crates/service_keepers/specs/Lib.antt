pub mod Keeping
pub mod MemoryCalls
pub mod MemoryRows
pub mod Rows
pub mod Tables
