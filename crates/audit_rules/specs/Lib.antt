-- what an auditor has before it
pub mod RecordTicks
pub mod Shown
pub mod ToldDone
-- which words may have been heard, what is caused by them
pub mod Hearing
pub mod CanCause
-- which rules are broken, and the verdict
pub mod Answering
pub mod Breaches
pub mod Verdicts
-- what follows, and small cases
pub mod Laws
pub mod Examples
