-- loops over items and bits
pub mod Each
pub mod Bits
pub mod NextBit
-- findings: of those taken the latest stamps and the last of a point
pub mod Latest
pub mod PlaceLists
pub mod Watched
-- sets of points, by address, and as operations change them
pub mod PointSets
pub mod Addressed
pub mod PointSwitches
-- what is shown: by zone, as it was drawn, before an operation comes in force, and where nothing changed
pub mod Masked
pub mod Drawn
pub mod AlreadyShown
pub mod Plain
pub mod BeforeOperation
pub mod Unchanged
pub mod Alike
-- findings that stand in runs
pub mod Runs
pub mod ZoneRuns
pub mod EightParts
pub mod BlockRuns
pub mod PlainBlocks
-- the whole part: at first, and after a turn or an operation
pub mod Firsts
pub mod Turned
pub mod Elsewhere
-- what it shows is what the answers themselves tell
pub mod Tells
pub mod ByAnswers
