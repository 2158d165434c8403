-- a run: the ticks of its record, what it stands for after some lines, and what a step makes of it
pub mod Records
pub mod Stands
pub mod Acting
-- what is written of a tick, and by the run so far
pub mod AlikeFaces
pub mod Pages
pub mod Writings
-- the journal and its disk: as a run opens and leaves them, and after a power cut
pub mod Journals
pub mod Outside
pub mod Disks
pub mod PowerCuts
