-- tests, lists and numbers of ticks
pub mod Bools
pub mod Places
pub mod Counting
pub mod Rounds
pub mod Floors
-- runs: their turns, their ticks, and what an order or a record makes of them
pub mod Turns
pub mod Ticks
pub mod Stays
pub mod Orders
pub mod RecordRuns
-- what a site says of where its points and zones are
pub mod SiteLayout
pub mod ValidLayout
-- from asking to Hold: the lanes, and what answers tell
pub mod Asked
pub mod Counts
pub mod LaneLaws
pub mod Lags
pub mod Order
pub mod AnswersTell
pub mod Reports
pub mod Held
-- which zones are due, and what they are caused by
pub mod Pairing
pub mod Signals
pub mod InAlarm
pub mod ConfirmedByFronts
pub mod Causes
pub mod Deadlines
-- words on their way round the ring
pub mod KeptWords
pub mod Ways
pub mod Heard
pub mod Joined
pub mod RingWords
-- operations: each is answered once
pub mod Answering
pub mod OpenRequests
-- facts and faults
pub mod FactsAgree
pub mod FaultsTold
