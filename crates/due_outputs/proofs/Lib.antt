-- spans of ticks without a gap, and lists kept place by place
pub mod Lasting
pub mod Places
-- outputs: asked by the zones that are due, due to be on unless excused, and kept tick by tick
pub mod Asked
pub mod DueOn
pub mod TicksTaken
