-- zones and outputs: their signals and numbers, and which of some comes first
pub mod Rows
pub mod Numbers
pub mod Lowest
pub mod Places
-- after a tick: which rules are broken where, and the first breach of all
pub mod Broken
pub mod Scans
pub mod Firsts
pub mod Breaking
pub mod Scanning
-- a record and a text read side by side, up to the verdict
pub mod ShownSteps
pub mod Judging
pub mod Ticks
pub mod Texts
