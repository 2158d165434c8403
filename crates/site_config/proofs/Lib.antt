-- lists and maps of names and numbers
pub mod ListsAlike
pub mod NameEntries
pub mod NumberMaps
-- a document in which no pass finds anything, and its draft
pub mod CleanKeys
pub mod CleanRows
pub mod CleanDrafts
pub mod DraftForms
pub mod DraftLists
-- what the reader finds in a draft
pub mod DraftFaults
pub mod ByName
-- claims of names and numbers, and what a name of a draft stands for
pub mod KeptClaims
pub mod ClaimHolders
pub mod NamedParts
pub mod FewParts
-- the site that is read is valid
pub mod SiteForms
pub mod References
pub mod Twins
pub mod MutualPartners
pub mod SectionZones
pub mod Validity
