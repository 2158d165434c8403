pub mod DueOn
pub mod Runs
pub mod Solved
pub mod Stands
