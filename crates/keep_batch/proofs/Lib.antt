-- what is put, one after another
mod Putting
-- the batch of the rules: how many entries are new, what is made, what the journal can keep
pub mod NewEntries
pub mod Making
pub mod Committing
