pub mod Reports
pub mod LineLists
pub mod Reaching
pub mod Events
