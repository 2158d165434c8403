-- bits: which answers of a group are alarms, silent or quiet, and which places are in a set
pub mod MaskBits
pub mod PlaceSets
pub mod KnownBlocks
-- the list of a run's items, and one finding more in a group or behind a run
pub mod Expanded
pub mod Blocks
pub mod FindingRuns
-- taking from a lane: the runs in its room, item by item, whole runs from its front, or all that lies in it
pub mod Queues
pub mod Moving
pub mod Passing
pub mod WholeRuns
pub mod AllRuns
pub mod Words
