-- What is kept of a supply of a panel.
use Rattle.std.specs.Prelude.{◌≡◌, ℕ, ◌-◌, nat_le, nat_lt, Bool, false, List, [], ◌∷◌, Option, Some, None}
use Rattle.std.specs.Prelude.{if◌then◌else◌}
use Rattle.site_types.specs.declared.supply_kind.SupplyKind.{SupplyKind}
use Rattle.supply_monitor.specs.Supply.{bad_turns, is_bad}
use Rattle.panel_rules.specs.Moments.{Moment, tick_of}
use Rattle.panel_rules.specs.Faults.{supply_calls}
use Rattle.plain_history.specs.declared.bad_run.BadRun.{BadRun}
use Rattle.plain_history.specs.declared.watched.Watched.{Watched}

-- the least of a tick and those of a run
abbrev pub least_of : ℕ → Option BadRun → ℕ
least_of tick None = tick
least_of tick (Some run) = if nat_lt tick run.least then tick else run.least

-- what is kept of the ticks of a run, the latest first
abbrev pub run_of : List ℕ → Option BadRun
run_of [] = None
run_of (tick ∷ ticks) = Some (record { latest = tick; least = least_of tick (run_of ticks) })

-- the least tick lies at least a wait before the latest one
abbrev pub shows : ℕ → Option BadRun → Bool
shows wait None = false
shows wait (Some run) = nat_le wait (run.latest - run.least)

-- a supply is watched over a history
pub record Watches (panel : ℕ) (kind : SupplyKind) (before : List Moment) (watched : Watched) : Type 0 where
  pub tick : watched.tick ≡ tick_of before
  pub bad : watched.bad ≡ is_bad kind (supply_calls panel before)
  pub run : watched.run ≡ run_of (bad_turns kind (supply_calls panel before))

-- the run after a turn of Supply in a tick, at which the supply is bad or isn't
abbrev pub run_with : ℕ → Bool → Option BadRun → Option BadRun
run_with tick bad run = if bad then Some (record { latest = tick; least = least_of tick run }) else None
