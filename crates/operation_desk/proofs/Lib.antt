-- lists, and answers by number
mod Places
mod Given
mod Ordering
-- what became of operations
mod Bounds
mod Rules
mod Taking
-- the turn of a panel's Desk
mod Mine
mod Turning
mod Turns
mod Turned
-- the other calls
mod Begun
mod Asked
mod Keeping
