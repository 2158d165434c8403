-- What befalls a site, one thing after another. In a list of moments the newest stands first.
use Rattle.std.specs.Prelude.{◌≡◌, ℕ, ◌+◌, ◌≤◌, ◌==◌, ◌&&◌, nat_le, Bool, true, false, List, [], ◌∷◌, if◌then◌else◌}
use Rattle.tick_units.specs.declared.seat.Seat.{Seat}
use Rattle.tick_units.specs.declared.task.Task.{Task}
use Rattle.tick_units.specs.declared.task.Task.TheVariants.{Keep}
use Rattle.tick_units.specs.Orders.{task_number}
use Rattle.site_types.specs.declared.event.Event.{Event}

pub data Moment : Type 0 where
  Began : Moment
  Happened : (event : Event) → Moment
  Turned : (panel : ℕ) → (task : Task) → Moment
  Kept : (failed : Bool) → Moment

-- the tick that began last
abbrev pub tick_of : List Moment → ℕ
tick_of [] = 0
tick_of (Began ∷ before) = tick_of before + 1
tick_of (Happened event ∷ before) = tick_of before
tick_of (Turned panel task ∷ before) = tick_of before
tick_of (Kept failed ∷ before) = tick_of before

-- the turn of a panel's task is the one that is looked for
abbrev pub is_turn : ℕ → Task → ℕ → Task → Bool
is_turn panel task other_panel other = (task_number other == task_number task) && (other_panel == panel)

-- whether a task of a panel has had its turn in the tick that began last; before the first tick nothing is
-- owed
abbrev pub has_turned : ℕ → Task → List Moment → Bool
has_turned panel task [] = true
has_turned panel task (Began ∷ before) = false
has_turned panel task (Happened event ∷ before) = has_turned panel task before
has_turned panel task (Turned other_panel other ∷ before) =
    if is_turn panel task other_panel other then true else has_turned panel task before
has_turned panel task (Kept failed ∷ before) = has_turned panel task before

-- whether Keep, which has one turn for the whole site, has had it in the tick that began last; before the first tick
-- nothing is owed
abbrev pub has_kept : List Moment → Bool
has_kept [] = true
has_kept (Began ∷ before) = false
has_kept (Happened event ∷ before) = has_kept before
has_kept (Turned panel task ∷ before) = has_kept before
has_kept (Kept failed ∷ before) = true

-- a tick has begun and nothing has had its turn in it
abbrev pub is_fresh : List Moment → Bool
is_fresh [] = false
is_fresh (Began ∷ before) = true
is_fresh (Happened event ∷ before) = is_fresh before
is_fresh (Turned panel task ∷ before) = false
is_fresh (Kept failed ∷ before) = false

-- Keep isn't a panel's task
abbrev pub IsPanelTask : Task → Type 0
IsPanelTask Keep = ⊥
IsPanelTask _ = Unit {0}

abbrev pub IsPanel : ℕ → ℕ → Type 0
IsPanel panels panel = (1 ≤ panel) × (panel ≤ panels)

-- each seat of a site of so many panels has had its turn in the tick that began last
pub record HaveAllTurned (panels : ℕ) (moments : List Moment) : Type 0 where
  pub each : (panel : ℕ) (task : Task) → IsPanel panels panel → IsPanelTask task
      → has_turned panel task moments ≡ true
  pub keep : has_kept moments ≡ true

-- A run: a tick begins when each seat has had its turn in the one before, its events come before all turns,
-- and no seat has two turns in it.
abbrev pub IsRun : ℕ → List Moment → Type 0
IsRun panels [] = Unit {0}
IsRun panels (Began ∷ before) = IsRun panels before × HaveAllTurned panels before
IsRun panels (Happened event ∷ before) = IsRun panels before × (is_fresh before ≡ true)
IsRun panels (Turned panel task ∷ before) = IsRun panels before × (has_turned panel task before ≡ false)
IsRun panels (Kept failed ∷ before) = IsRun panels before × (has_kept before ≡ false)

-- a tick of a record: the events that come in it, the order of its turns, and whether the disk made Keep's
-- turn fail
pub record TickBlock : Type 0 where
  pub events : List Event
  pub order : List Seat
  pub failed : Bool

-- moments after these, each further one later
abbrev pub and_events : List Event → List Moment → List Moment
and_events [] before = before
and_events (event ∷ events) before = and_events events (Happened event ∷ before)

abbrev pub turn_of : Bool → ℕ → Task → Moment
turn_of failed panel Keep = Kept failed
turn_of failed panel task = Turned panel task

abbrev pub and_turns : Bool → List Seat → List Moment → List Moment
and_turns failed [] before = before
and_turns failed (seat ∷ seats) before = and_turns failed seats (turn_of failed seat.panel seat.task ∷ before)

-- the moments of a record, the newest tick first
abbrev pub moments : List TickBlock → List Moment
moments [] = []
moments (tick ∷ ticks) = and_turns tick.failed tick.order (and_events tick.events (Began ∷ moments ticks))

-- a history up to the end of a tick
abbrev pub up_to : ℕ → List Moment → List Moment
up_to tick [] = []
up_to tick (moment ∷ before) = if nat_le (tick_of (moment ∷ before)) tick then moment
    ∷ before else up_to tick before

-- an earlier moment of a history, or its last one
pub data IsPast (past : List Moment) : List Moment → Type 0 where
  present : IsPast past past
  later : (moment : Moment) (before : List Moment) → IsPast past before → IsPast past (moment ∷ before)

-- the tick of the latest turn of a panel's task, else 0
abbrev pub latest_turn : ℕ → Task → List Moment → ℕ
latest_turn panel task [] = 0
latest_turn panel task (Began ∷ before) = latest_turn panel task before
latest_turn panel task (Happened event ∷ before) = latest_turn panel task before
latest_turn panel task (Turned other_panel other ∷ before) =
    if is_turn panel task other_panel other then tick_of before else latest_turn panel task before
latest_turn panel task (Kept failed ∷ before) = latest_turn panel task before

-- what had befallen before the latest turn of a panel's task, else nothing
abbrev pub before_turn : ℕ → Task → List Moment → List Moment
before_turn panel task [] = []
before_turn panel task (Began ∷ before) = before_turn panel task before
before_turn panel task (Happened event ∷ before) = before_turn panel task before
before_turn panel task (Turned other_panel other ∷ before) =
    if is_turn panel task other_panel other then before else before_turn panel task before
before_turn panel task (Kept failed ∷ before) = before_turn panel task before
