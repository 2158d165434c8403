-- lists that the program keeps with the oldest first
pub mod Histories
pub mod Later
pub mod TakenMoments
-- what is kept at opening, and masks of outputs
pub mod Outputs
-- reports of cables and supplies
pub mod Reported
pub mod CableReports
pub mod BadRuns
