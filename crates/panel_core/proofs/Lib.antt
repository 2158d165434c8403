-- what a ring tells its panels
pub mod Later
-- all panels: a moment, events, turns one after another, operations that come in force
pub mod Whole
pub mod TaskTurns
pub mod PartTurns
pub mod DeskTurns
pub mod KeepTurns
pub mod Events
pub mod Orders
pub mod StepsCounted
pub mod InLine
pub mod Backwards
pub mod Fronts
pub mod AllTurns
pub mod Begun
-- what is answered, and what is shown of zones
pub mod Answered
pub mod Shows
pub mod WholeFaces
pub mod ZonesShown
pub mod PromisedFaces
-- which panels are marked
pub mod ShownByHold
pub mod FacesAlike
pub mod LinkTurns
pub mod Marked
