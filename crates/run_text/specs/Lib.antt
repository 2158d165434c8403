-- the text
pub mod SoFar
pub mod TextLaws
-- what holds at the end of each tick
pub mod RunPromises
-- failures of Keep, and ticks as a record tells them
pub mod Failures
