-- the file: bytes at its places, slots with a whole state each, cells with the batch of one commit each
pub mod Places
pub mod Fields
pub mod Slots
pub mod Cells
pub mod Batches
-- what a file opens to, also an older one, and how a new one is made
pub mod Opening
pub mod Replays
pub mod OlderFiles
pub mod NewFiles
pub mod Creating
-- an open journal: what it says of its file, and what calls and crashes leave
pub mod Journals
pub mod Images
pub mod Outcomes
