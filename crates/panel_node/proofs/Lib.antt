-- what came before a turn, and what is done after it
pub mod WhatCame
pub mod Histories
pub mod Later
-- words that are kept and made
pub mod KeptWords
pub mod Words
-- the other panels of its site
pub mod OwnEvents
pub mod Desks
-- a frame, a moment more
pub mod Came
pub mod Next
pub mod Events
pub mod Begun
-- turns of its tasks
pub mod Elsewhere
pub mod OwnTurns
-- what is shown
pub mod HandedNow
pub mod ZonesShown
pub mod Sent
-- Keep
pub mod KeepTurns
-- the turns of a tick
pub mod Seats
pub mod AllTurns
