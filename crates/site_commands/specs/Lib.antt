pub mod Cycles
pub mod Sites
pub mod Counts
pub mod Matrix
pub mod Refusals
pub mod Files
pub mod Commands
