pub mod Runs
pub mod Lines
pub mod Running
pub mod Replies
pub mod Serving
