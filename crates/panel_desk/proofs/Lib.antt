pub mod Asked
pub mod Replied
pub mod Sending
pub mod Connections
