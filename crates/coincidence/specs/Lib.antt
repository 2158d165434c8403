-- what is kept of points and zones, and how an answer or an operation changes it
pub mod ZoneMasks
pub mod Stands
pub mod Places
pub mod PlainZones
pub mod Parts
-- what an answer means by what is kept, and which answers change nothing of it
pub mod Observations
pub mod Resting
pub mod Steady
pub mod GoingOn
-- calls: what may come next, what it makes of all that is kept, and what is told of an answer
pub mod Premises
pub mod Changes
pub mod Queries
pub mod ChangedBlocks
