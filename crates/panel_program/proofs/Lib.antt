-- a record read piece by piece: what a line and a reader's answer make of the run
pub mod Pieces
pub mod Taking
pub mod Steps
pub mod Readings
-- the command line's words for sites and files, how a run ends, and what it came to
pub mod Naming
pub mod Ends
pub mod Outcomes
pub mod Succeeding
