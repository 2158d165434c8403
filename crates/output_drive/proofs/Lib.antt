-- bits of masks of a panel's outputs
pub mod OutputBits
-- runs that tell the outputs of a panel the same, and moments that tell them nothing
pub mod Alike
-- what was done in the tick that ends
pub mod DoneTaken
-- sounders, and the outputs before any tick
pub mod Sounding
-- a turn of Drive, and a confirmation
pub mod Turning
