-- How far ticks are numbered.
use Rattle.std.specs.Prelude.{ℕ}

-- the last tick that a run may have
abbrev pub last_tick : ℕ
last_tick = 1000000000
