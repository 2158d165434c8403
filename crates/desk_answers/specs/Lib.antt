pub mod AnswerHeads
pub mod Objects
pub mod ProfileTables
