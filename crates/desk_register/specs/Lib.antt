pub mod Puts
pub mod Replies
pub mod Statuses
pub mod Taken
