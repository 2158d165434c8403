-- what a tick brings: its events, then each way round the ring, then all that is kept
pub mod EventsTaken
pub mod WaysTaken
pub mod TicksTaken
-- when a way is up, since when and how long, and which two panels that joins
pub mod LinksUp
pub mod WaysKnown
pub mod JoinedSince
