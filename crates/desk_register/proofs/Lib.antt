-- the places that a body says are those of points
pub mod SaidPlaces
-- visits and tests that are put in turn
pub mod InTurn
-- replies by what came of a call
pub mod Replied
