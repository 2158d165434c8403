-- a record's lines: how many, of which tick, what they bring, and orders and codes in them
pub mod Numbers
pub mod Progresses
mod GivenOrders
pub mod Codes
-- what is written of a tick: faces that changed, answers, and all that was written by then
pub mod Results
pub mod AlikeFaces
pub mod Faces
pub mod SameFaces
pub mod Answered
pub mod Closing
pub mod Untold
pub mod Written
-- a run step by step: what it stands for, what it leaves on the journal's disk, and what a power cut leaves of that
pub mod Stood
pub mod Disks
pub mod TickCuts
pub mod Cuts
pub mod PowerCuts
