pub mod Answers
pub mod Export
pub mod Laws
pub mod Listed
pub mod Points
