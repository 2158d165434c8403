-- never two verdicts on one record and text: of two breaches one comes first
pub mod FirstOnes
pub mod OneVerdict
-- what the rules allow and what they find: words that panels may have heard, and cases of a small site
pub mod HeardStamps
pub mod SmallSite
pub mod SmallCases
