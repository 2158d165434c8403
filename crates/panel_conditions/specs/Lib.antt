-- turns, and what the findings taken by then tell of a zone and of a point
pub mod Turns
pub mod Zones
pub mod Missing
pub mod Told
-- sets of a panel's points: those that pass a test, one point put in or taken out, two sets joined or parted
pub mod Points
pub mod PointSets
-- what a turn shows: faults, the word to the others, what of this is new, the buzzer, entries
pub mod Words
pub mod Shown
-- by answers in place of findings: the word and faults, and that both tell the same
pub mod Answered
pub mod Laws
-- what is kept for all turns and operations so far, and what one more makes of it
pub mod Stands
pub mod Parts
pub mod Changes
