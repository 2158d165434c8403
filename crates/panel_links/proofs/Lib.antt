-- words read and written in the table of what panels keep
pub mod Places
-- facts that follow the words
pub mod FactsTold
-- a turn, and that turn by turn the newest word over all chains is kept
pub mod Turns
pub mod Newest
pub mod Chains
-- links that are down
pub mod Downs
-- panels that are silent
pub mod Silences
-- a mask of flags that is made from the last one down
pub mod Growing
