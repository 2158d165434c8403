-- the document that bytes spell, and the draft of a site that it makes
pub mod Documents
pub mod Drafts
-- tables: the keys that each may have and needs, what stands there, and the forms of words and terms
pub mod Rules
pub mod Needs
pub mod Tables
pub mod Words
pub mod Terms
-- four passes over a site file: absent keys, values of a wrong kind, unknown keys, numbers and lists out of range
pub mod Walk
pub mod Missing
pub mod WrongKind
pub mod Unknown
pub mod Ranges
-- what a refusal says, and how it writes keys
pub mod Refusals
pub mod Texts
