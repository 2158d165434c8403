-- masks in which the bit of one thing is set or cleared
pub mod Numbers
pub mod Things
-- settings without strange bits
pub mod Changes
pub mod Nothing
pub mod OwnCarried
-- what their bits are of
pub mod BitsOfThings
-- what is in force
pub mod InForce
