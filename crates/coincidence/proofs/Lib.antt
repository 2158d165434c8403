-- what is kept, where the code reads it: at the start, and of a point, its zone and the partner
pub mod Begun
pub mod Watched
-- answers: what is judged and observed of one, which zones it confirms, its finding, and what is kept after it
pub mod Judged
pub mod Observations
pub mod ConfirmedZones
pub mod Masked
pub mod FindingIs
pub mod TakenAnswer
pub mod TakenRuns
pub mod Eights
pub mod Marked
pub mod PlainAlarms
pub mod PlainZones
pub mod GoingOn
pub mod Turned
pub mod PlaceSets
pub mod Resting
pub mod RunItems
pub mod Passed
pub mod ZoneParts
pub mod Steady
pub mod BlockWords
pub mod ZoneMasks
pub mod PlainlyFound
pub mod ChangedBlocks
-- operations: what is kept after one, by its kind, and that those of other panels change nothing
pub mod AppliedOperation
pub mod OperationKinds
pub mod Elsewhere
