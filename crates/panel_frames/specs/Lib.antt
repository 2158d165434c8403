pub mod Bytes
pub mod Grammar
pub mod Refusals
pub mod Laws
