-- a zone by its type: the points that are looked at, and which two make a pair
pub mod Types
pub mod Kinds
pub mod Pairs
-- what is known at a tick: points held for a round, floors of zones, and zones in which a point just became so
pub mod Known
pub mod Rounds
pub mod Floors
pub mod Marks
-- signals that have ended, the earliest of them, and what is kept of it for each zone
pub mod Ended
pub mod Least
pub mod Stands
pub mod StandsFor
pub mod Telling
