-- points of a zone that are held for a round: one, two, or one and one of the partner zone
pub mod HeldRounds
pub mod ZonePlaces
pub mod MembersFound
pub mod TwoHeld
pub mod PairsHeld
-- signals that end in this tick: of a point or a pair, by the zone's type, and only in zones that were marked
pub mod SignalsEnd
pub mod PairsEnd
pub mod RoundsByType
pub mod Marking
-- floors of zones, which resets, disablings and tests set: spans without one, and what is kept of them
pub mod NoFloors
pub mod FloorsTaken
-- a tick later: signals that still count, and what is kept of each zone
pub mod SignalsMoved
pub mod TicksOn
pub mod MomentsOn
pub mod PartlyTaken
-- the earliest signal that has ended, by which a zone is due
pub mod LeastTicks
pub mod DueLeast
