-- a frame taken word by word
pub mod Frames
-- the first of the newest
pub mod FirstNewest
