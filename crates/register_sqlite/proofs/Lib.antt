-- what the database makes of the texts: how it reads them, compares values, keeps keys apart and fits a row in
pub mod Understood
pub mod Compared
pub mod Apart
pub mod Fitting
-- tables after a text: made, with a row more, or as before where it only read or failed
pub mod Parts
pub mod States
pub mod Created
pub mod Inserted
pub mod Queried
-- a store that never fails: a text is refused for want of memory, or where a test would have no number
pub mod Steady
pub mod Wanting
pub mod Making
pub mod Putting
pub mod Reading
-- the register after a call of its keeper, and what the call answers
pub mod Kept
pub mod Registered
pub mod Asked
pub mod FoundRows
