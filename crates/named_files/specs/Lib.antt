pub mod Fetched
pub mod Missing
