-- what comes as a block: its bytes, its lines, and the codes of its operations
pub mod Came
pub mod LinesTold
pub mod Codes
-- the tick that a block brings: what befell in it, its turns, and what it leaves on the journal's disk
pub mod Blocks
pub mod Befalling
pub mod Turning
pub mod Kept
-- what a connection is answered, and what was served of it
pub mod Replying
pub mod Written
pub mod Served
