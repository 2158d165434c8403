-- what a turn goes by
pub mod Parts
pub mod OwnFaults
pub mod LaterHanded
-- zones shown
pub mod ShownZones
-- the words of the ring
pub mod OwnWords
pub mod RingFrames
-- what is sent
pub mod OwnFrames
-- a panel whose links were up, in the ring and by itself: the words handed in, links, outputs
pub mod RingParts
pub mod OwnOutputs
pub mod RingFaults
pub mod RingFaces
-- the other panels of its run
pub mod QuietPoints
