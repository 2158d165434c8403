-- what is held back and written
pub mod Holding
-- the page, its slots and how they are named
pub mod Pages
pub mod Listing
pub mod NextNames
pub mod Begun
pub mod ListItems
pub mod Busy
-- what two masks tell, and faces that show the same
pub mod SameBits
pub mod Marks
pub mod EqualFaces
pub mod SameFaces
pub mod PageParts
