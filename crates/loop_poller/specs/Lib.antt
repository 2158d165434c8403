-- what a poller is told of points and cables, and what it keeps of that
pub mod Calls
pub mod Cables
pub mod Points
pub mod PointSets
pub mod Stands
-- which points are asked in a tick, and the answers that go into a lane
pub mod Asked
pub mod Groups
pub mod Blocks
pub mod Puts
