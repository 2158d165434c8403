-- bits: masks of zones, and bytes that have no bits but those of others
mod ZoneMasks
pub mod Beyond
pub mod Fitting
-- words: the bytes that spell one, and which words a frame may have
pub mod WordBytes
pub mod MostWords
-- whole frames: printed, taken from bytes, and read back
mod Printing
pub mod Taken
pub mod PrintedFrames
pub mod ReadFrames
