pub mod BadRuns
pub mod Histories
pub mod Numbers
pub mod Reported
pub mod Settings
