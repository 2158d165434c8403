-- ticks that fall, what was done in a tick, the outputs of a panel by their numbers, and masks of zones
pub mod Falling
pub mod RunTicks
pub mod DoneNow
pub mod LatestFirst
pub mod Numbers
pub mod ZoneMasks
-- the parts
pub mod Confirming
pub mod DelaysDone
pub mod Delaying
pub mod Silencing
-- masks of outputs
pub mod OutputMasks
-- what is done later
pub mod LaterDone
