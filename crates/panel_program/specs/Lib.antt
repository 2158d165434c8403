pub mod Words
pub mod Endings
pub mod Ahead
pub mod Taking
pub mod Runs
pub mod Commands
pub mod Successes
