-- Which panels are marked: each that may show something else than at the end of the tick before.
use Rattle.std.specs.Prelude.{◌≡◌, ◌-◌, ◌≤◌, ℕ, Bool, false, List, [], ◌∷◌, slice_index_or}
use Rattle.tick_units.specs.declared.seat.Seat.{Seat}
use Rattle.tick_units.specs.declared.task.Task.{Task}
use Rattle.tick_units.specs.Ticks.{last_tick}
use Rattle.site_types.specs.declared.event.Event.{Event}
use Rattle.site_types.specs.declared.retained.Retained.{Retained}
use Rattle.site_types.specs.declared.site.Site.{Site}
use Rattle.retained_journal.specs.declared.journal.Journal.{Journal}
use Rattle.keep_turn.specs.declared.store.Store.{Store}
use Rattle.panel_rules.specs.Moments.{Moment, Began, Happened, Turned, Kept, IsPanel, IsRun, and_turns, tick_of}
use Rattle.panel_rules.specs.Timeline.{face_of}
use Rattle.panel_core.specs.declared.system.System.{System}
use Rattle.panel_parts.specs.Applied.{applied, done_so_far}
use Rattle.panel_core.specs.Changes.{seats_between}
use Rattle.panel_core.specs.Keeping.{KeepsRun, has_failed}
use Rattle.panel_core.specs.Stands.{StandsFor}

-- what had befallen when the tick that began last was yet to begin
abbrev pub before_tick : List Moment → List Moment
before_tick [] = []
before_tick (Began ∷ before) = before
before_tick (Happened event ∷ before) = before_tick before
before_tick (Turned panel task ∷ before) = before_tick before
before_tick (Kept failed ∷ before) = before_tick before

-- a panel shows what it showed at the end of the tick before
abbrev pub ShowsSame : Site → Retained → List Moment → ℕ → Type 0
ShowsSame site kept moments panel =
    face_of site kept panel moments ≡ face_of site kept panel (before_tick moments)

-- whether a panel is marked; the mark of panel 1 stands first
abbrev pub is_marked : List Bool → ℕ → Bool
is_marked marks panel = slice_index_or marks (panel - 1) false

-- each panel that isn't marked shows what it showed at the end of the tick before
abbrev pub AreMarked : Site → Retained → List Moment → List Bool → Type 0
AreMarked site kept moments marks =
    (panel : ℕ) → IsPanel site.panels panel → is_marked marks panel ≡ false → ShowsSame site kept moments panel

-- it is told of a panel that it hasn't changed only where it shows what it showed at the end of the tick before
abbrev pub TellsSame : System → ℕ → Bool → Type 0
TellsSame system panel changed =
    (site : Site) (kept : Retained) (moments : List Moment)
    → StandsFor site kept moments system → AreMarked site kept moments system.changed
    → changed ≡ false → ShowsSame site kept moments panel

-- ---- what calls make of the marks

-- a tick began: whatever was marked, it is marked anew
abbrev pub MarksAnew : System → List Bool → Type 0
MarksAnew old marks =
    (site : Site) (kept : Retained) (before : List Moment)
    → StandsFor site kept before old → IsRun site.panels (Began ∷ before)
    → AreMarked site kept (Began ∷ before) marks

-- where nothing was done in the tick that ends no panel is marked
abbrev pub MarksNone : System → List Bool → Type 0
MarksNone old marks =
    (site : Site) (kept : Retained) (before : List Moment) (panel : ℕ)
    → StandsFor site kept before old → IsPanel site.panels panel
    → done_so_far site kept before ≡ applied site kept before → is_marked marks panel ≡ false

-- an event happened
abbrev pub MarksEvent : System → Event → List Bool → Type 0
MarksEvent old event marks =
    (site : Site) (kept : Retained) (before : List Moment)
    → StandsFor site kept before old → AreMarked site kept before old.changed
    → AreMarked site kept (Happened event ∷ before) marks

-- a task of a panel had its turn
abbrev pub MarksTurn : System → ℕ → Task → List Bool → Type 0
MarksTurn old panel task marks =
    (site : Site) (kept : Retained) (before : List Moment)
    → StandsFor site kept before old → IsRun site.panels (Turned panel task ∷ before)
    → AreMarked site kept before old.changed → AreMarked site kept (Turned panel task ∷ before) marks

-- each of these seats of panels had its turn, in this order
abbrev pub MarksTurns : System → List Seat → List Bool → Type 0
MarksTurns old seats marks =
    (site : Site) (kept : Retained) (before : List Moment)
    → StandsFor site kept before old → IsRun site.panels (and_turns false seats before)
    → AreMarked site kept before old.changed → AreMarked site kept (and_turns false seats before) marks

-- the seats of an order from one place up to another
abbrev pub MarksTurnsFrom : System → List Seat → ℕ → ℕ → List Bool → Type 0
MarksTurnsFrom old order from to marks = MarksTurns old (seats_between from to order) marks

-- Keep had its turn
abbrev pub MarksKept : System → Journal → Store → List Bool → Type 0
MarksKept old journal store marks =
    (site : Site) (kept : Retained) (before : List Moment)
    → StandsFor site kept before old → KeepsRun site kept before journal
    → IsRun site.panels (Kept false ∷ before) → tick_of before ≤ last_tick
    → AreMarked site kept before old.changed → AreMarked site kept (Kept (has_failed store) ∷ before) marks

-- each seat had its turn, in this order
abbrev pub MarksAllTurns : System → List Seat → Journal → Store → List Bool → Type 0
MarksAllTurns old order journal store marks =
    (site : Site) (kept : Retained) (before : List Moment)
    → StandsFor site kept before old → KeepsRun site kept before journal
    → IsRun site.panels (and_turns false order before) → tick_of before ≤ last_tick
    → AreMarked site kept before old.changed → AreMarked site kept (and_turns (has_failed store) order before) marks

-- ---- marks are raised, and none is lowered

-- the mark of one panel is raised where it shows something else; no mark is lowered, and nothing but marks changes
pub record RaisesMark (old : System) (panel : ℕ) (differs : Bool) (system : System) : Type 0 where
  pub rest : system ≡ record old { changed = system.changed }
  pub unmarked : (other : ℕ) → is_marked system.changed other ≡ false → is_marked old.changed other ≡ false
  pub same : is_marked system.changed panel ≡ false → differs ≡ false

-- the marks of all panels are raised where some show something else; no mark is lowered, and nothing but marks changes
pub record RaisesMarks (old : System) (differ : Bool) (system : System) : Type 0 where
  pub rest : system ≡ record old { changed = system.changed }
  pub unmarked : (other : ℕ) → is_marked system.changed other ≡ false → is_marked old.changed other ≡ false
  pub same : (other : ℕ) → 1 ≤ other → other ≤ 8 → is_marked system.changed other ≡ false → differ ≡ false
