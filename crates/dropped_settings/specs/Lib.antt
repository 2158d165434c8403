pub mod Dropped
pub mod Moved
pub mod Names
