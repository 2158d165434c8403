-- what is left to read and what was written
pub mod Shrinking
pub mod Growing
-- counts of faults
pub mod Counting
-- the log of a disk in memory, and what a crash leaves
pub mod Logging
pub mod Moments
