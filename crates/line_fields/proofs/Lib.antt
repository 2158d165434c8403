-- texts put together of plain fields
pub mod Joined
pub mod PlainFields
-- where the first space lies, and loops over fields
pub mod Spaces
