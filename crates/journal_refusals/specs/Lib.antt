pub mod JournalTexts
