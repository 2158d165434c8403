-- The latest tick in which something was done.
use Rattle.std.specs.Prelude.{ℕ, Bool, nat_lt, if◌then◌else◌}
use Rattle.tick_units.specs.declared.tick.Tick.{Tick}
use Rattle.tick_units.specs.declared.last_done.LastDone.{LastDone}

-- something was never done: its latest tick is 0, and so is the one before that
abbrev pub never_done : LastDone
never_done = record { tick = record { 0 = 0 }; earlier = record { 0 = 0 } }

-- the latest tick in which something was done before a given one, which isn't before the latest of all in which it was
abbrev pub last_at : ℕ → LastDone → ℕ
last_at x last = if nat_lt last.tick.0 x then last.tick.0 else last.earlier.0

-- the latest tick in which something was done, and the one before that, after it was done in a tick, which isn't before
-- the latest
abbrev pub last_after : Tick → LastDone → LastDone
last_after at last = if nat_lt last.tick.0 at.0 then record { tick = at; earlier = last.tick } else last

-- the latest tick in which something was done, and the one before that, after a tick in which it was done or not
abbrev pub last_if : Bool → Tick → LastDone → LastDone
last_if on at last = if on then last_after at last else last
