-- which points, detectors and partner a zone has, and what is relied on of that
pub mod Places
pub mod Wired
-- what answers mean: which count, and when a zone is confirmed, in alarm or in first state, and a point missing
pub mod Counted
pub mod Confirmed
pub mod Alarm
pub mod First
pub mod Missing
-- the order in which answers and operations come
pub mod InOrder
pub mod Applied
-- an answer's finding, what is enough to keep for it, and that findings tell of a zone what all answers do
pub mod Findings
pub mod Kept
pub mod Laws
