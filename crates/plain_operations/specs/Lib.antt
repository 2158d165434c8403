pub mod Desks
pub mod Storing
pub mod Tellings
