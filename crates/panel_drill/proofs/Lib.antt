-- the record is a run
pub mod Ticks
-- one tick of it
pub mod Ticking
-- the journal at its beginning
pub mod Opened
-- counts at its end
pub mod Counts
