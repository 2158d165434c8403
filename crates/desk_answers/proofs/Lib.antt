pub mod Phrases
pub mod TableRows
pub mod WrittenTexts
