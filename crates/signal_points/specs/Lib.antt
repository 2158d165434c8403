pub mod Signalling
pub mod Laws
pub mod Reports
pub mod States
pub mod Looks
pub mod Stands
