-- the answers of a panel's points, and which of them are missing
pub mod Asked
pub mod Silent
pub mod MissingPoints
-- entries into the fire alarm condition
pub mod Enterings
pub mod EnteringPanels
