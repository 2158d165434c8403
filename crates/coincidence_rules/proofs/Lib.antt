-- lists and masks, and that a valid site has its points, zones and partners together
pub mod Lists
pub mod ZoneMasks
pub mod ValidWired
-- what is enough to keep of the answers: the latest of another point, and where a point's run began
pub mod Latest
pub mod Seconds
pub mod Runs
pub mod Verified
-- what is found answer by answer is what the definitions say of all answers
pub mod Found
pub mod FoundZones
pub mod FoundFindings
pub mod ConfirmedStamps
-- operations: what is remembered of a kind of them, and that later ones and those of other panels change nothing
pub mod LastDone
pub mod Later
pub mod Elsewhere
