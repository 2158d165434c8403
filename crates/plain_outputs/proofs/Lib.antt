-- moments seen, and turns of a task among them
pub mod Looking
-- markers, and which outputs they ask for
pub mod Solving
pub mod Requesting
-- what holds an output back, keeps it quiet, confirms it
pub mod Joining
pub mod Silencing
pub mod Confirming
pub mod FlagsTold
