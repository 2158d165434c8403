-- How many markers are evaluated in turns: at a turn of Effect those that depend on a fact that changed since the
-- panel's turn of Effect before, and those that depend on a changed one of what counts by hand; at other turns none.
use Rattle.std.specs.Prelude.{◌≡◌, ◌≤◌, ℕ, Bool, false, List, [], ◌∷◌}
use Rattle.tick_units.specs.declared.seat.Seat.{Seat}
use Rattle.tick_units.specs.declared.task.Task.{Task}
use Rattle.tick_units.specs.declared.task.Task.TheVariants.{Effect}
use Rattle.site_types.specs.declared.retained.Retained.{Retained}
use Rattle.site_types.specs.declared.site.Site.{Site}
use Rattle.keep_turn.specs.declared.store.Store.{Store}
use Rattle.panel_effects.specs.ChangedFacts.{RoseByFacts}
use Rattle.panel_effects.specs.Stands.{facts_at_effect}
use Rattle.panel_rules.specs.Markers.{Facts}
use Rattle.panel_rules.specs.Moments.{Moment, IsRun, and_turns, tick_of, turn_of}
use Rattle.panel_rules.specs.Run.{facts_of}
use Rattle.retained_journal.specs.declared.journal.Journal.{Journal}
use Rattle.tick_units.specs.Ticks.{last_tick}
use Rattle.panel_core.specs.declared.system.System.{System}
use Rattle.panel_parts.specs.Applied.{applied}
use Rattle.panel_core.specs.Changes.{seats_between}
use Rattle.panel_core.specs.Keeping.{KeepsRun, has_failed}
use Rattle.panel_core.specs.Stands.{StandsFor}

module _ (site : Site) (facts : ℕ → List Moment → Facts) where
  -- at a turn made now; before a panel's first turn of Effect no fact is true
  abbrev pub RisesAt : ℕ → Task → List Moment → ℕ → ℕ → Type 0
  RisesAt panel Effect before = RoseByFacts site (facts_at_effect facts panel before) (facts panel before)
  RisesAt panel task before = λ earlier later. later ≡ earlier

  -- over turns one after another: the sum over the turns of Effect among them
  abbrev pub RisesOver : Bool → List Seat → List Moment → ℕ → ℕ → Type 0
  RisesOver failed [] before = λ earlier later. later ≡ earlier
  RisesOver failed (seat ∷ seats) before = λ earlier later.
      (between : ℕ) × RisesAt seat.panel seat.task before earlier between
      × RisesOver failed seats (turn_of failed seat.panel seat.task ∷ before) between later

-- the facts of a run, with the operations that are in force
abbrev pub facts_in_force : Site → Retained → List Moment → ℕ → List Moment → Facts
facts_in_force site kept before = facts_of site kept (applied site kept before)

-- at the turn of a task of a panel
abbrev pub CountsTurn : System → ℕ → Task → ℕ → ℕ → Type 0
CountsTurn old panel task earlier later =
    (site : Site) (kept : Retained) (before : List Moment)
    → StandsFor site kept before old → RisesAt site (facts_in_force site kept before) panel task before earlier later

-- at the turns of these seats of panels, in this order
abbrev pub CountsTurns : System → List Seat → ℕ → ℕ → Type 0
CountsTurns old seats earlier later =
    (site : Site) (kept : Retained) (before : List Moment)
    → StandsFor site kept before old → IsRun site.panels (and_turns false seats before)
    → RisesOver site (facts_in_force site kept before) false seats before earlier later

-- at the turns of the seats of an order from one place up to another
abbrev pub CountsTurnsFrom : System → List Seat → ℕ → ℕ → ℕ → ℕ → Type 0
CountsTurnsFrom old order from to earlier later = CountsTurns old (seats_between from to order) earlier later

-- at the turns of a whole order, in which Keep answered so
abbrev pub CountsAllTurns : System → List Seat → Journal → Store → ℕ → ℕ → Type 0
CountsAllTurns old order journal store earlier later =
    (site : Site) (kept : Retained) (before : List Moment)
    → StandsFor site kept before old → KeepsRun site kept before journal
    → IsRun site.panels (and_turns false order before) → tick_of before ≤ last_tick
    → RisesOver site (facts_in_force site kept before) (has_failed store) order before earlier later
