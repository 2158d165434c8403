pub mod Ordered
pub mod Requests
pub mod Replies
pub mod Stands
pub mod Changes
