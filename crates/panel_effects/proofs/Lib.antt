-- the facts of the latest turn, and as masks
pub mod LatestFacts
pub mod FactsAsMasks
-- what a turn makes of what is kept, its steps, and what it asks for
pub mod Changed
pub mod Turned
pub mod Requested
-- facts read from words
pub mod HeardMasks
pub mod HeardFacts
