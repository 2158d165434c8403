-- which addresses are asked in a tick, and the places of their answers
pub mod Windows
pub mod Positions
pub mod Places
-- a loop: its points as they are found, and what it has in a valid site
pub mod Filling
pub mod Lines
-- which loops have a fault
pub mod Faults
-- what a turn puts into the lane
pub mod Lanes
-- groups of points that follow one another, on a cable with nothing wrong
pub mod Sound
pub mod FollowingPoints
pub mod PointPlaces
pub mod GroupMasks
pub mod GroupAnswers
-- four groups at the same addresses, and their answers
pub mod BlockGroups
pub mod BlockAnswers
pub mod AskedBlocks
