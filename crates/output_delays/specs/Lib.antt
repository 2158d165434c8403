pub mod Kept
pub mod Overrides
pub mod Runs
pub mod Stands
pub mod Timers
pub mod Passed
