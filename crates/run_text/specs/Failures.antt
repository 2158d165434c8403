-- How many turns of Keep failed in a run, and the same ticks as a record tells them, which knows nothing of it.
use Rattle.std.specs.Prelude.{◌≡◌, ◌↔◌, ◌+◌, ℕ, false, List, [], ◌∷◌, length, map, if◌then◌else◌}
use Rattle.panel_rules.specs.Moments.{TickBlock, moments}
use Rattle.panel_rules.specs.Records.{AreOrdered}
use Rattle.panel_rules.specs.Timeline.{failed_ticks}

-- of some ticks those in which Keep's turn failed, counted
abbrev pub failures : List TickBlock → ℕ
failures [] = 0
failures (tick ∷ ticks) = if tick.failed then failures ticks + 1 else failures ticks

-- a tick as a record tells it: its events and its order, and no failure
abbrev pub without_failure : TickBlock → TickBlock
without_failure tick = record tick { failed = false }

abbrev pub as_recorded : List TickBlock → List TickBlock
as_recorded ticks = map without_failure ticks

-- in a run they are as many as the ticks in which it failed
abbrev pub FailuresAreCounted : Type 0
FailuresAreCounted =
    (panels : ℕ) (ticks : List TickBlock) → AreOrdered panels ticks
    → length (failed_ticks (moments ticks)) ≡ failures ticks

-- a record tells as many ticks and no failure, with orders of the seats exactly where the ticks of the run have
-- them
abbrev pub RecordedAreTheSame : Type 0
RecordedAreTheSame =
    (panels : ℕ) (ticks : List TickBlock)
    → (length (as_recorded ticks) ≡ length ticks)
    × (AreOrdered panels (as_recorded ticks) ↔ AreOrdered panels ticks)
    × (failures (as_recorded ticks) ≡ 0)
