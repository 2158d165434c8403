-- a panel that is handed the words of the others, whatever they are: its turns and what it shows
pub mod Handed
pub mod HandedStays
pub mod Shown
-- a panel by itself, to which words come in frames: its history, the others that nothing befalls, and what follows
pub mod Histories
pub mod Nodes
pub mod QuietPanels
pub mod NodeLaws
-- a panel by itself that gets just the frames that the ring would hand it
pub mod RingHistories
pub mod RingLaws
