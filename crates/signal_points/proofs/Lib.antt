-- when a point signals: the test for it, and spans in which it does
pub mod Tests
pub mod Spans
-- a tick taken: what leaves points as they are, a look at each point, and the runs then
pub mod Sounds
pub mod Looked
pub mod TicksTaken
