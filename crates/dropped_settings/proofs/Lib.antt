pub mod DroppedLines
pub mod Named
