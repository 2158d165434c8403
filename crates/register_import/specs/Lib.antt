pub mod Answers
pub mod Judged
pub mod Laws
pub mod Puts
pub mod Refused
pub mod Rows
pub mod Views
