-- lanes, and the turns of Hold
pub mod Fronts
pub mod Steps
pub mod TurnsMade
-- what a panel in the ring is told
pub mod InRing
-- what it shows
pub mod FaultsHeld
pub mod WordsHeld
pub mod ZonesHeld
pub mod NewsHeld
pub mod EntriesHeld
