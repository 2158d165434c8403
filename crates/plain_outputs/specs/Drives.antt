-- What is kept of moments to tell what drives outputs, for a history of them.
use Rattle.std.specs.Prelude.{◌≡◌, ℕ, ◌==◌, max, Bool, true, false, List, [], ◌∷◌, take, reverse}
use Rattle.std.specs.Prelude.{slice_get, Option, Some, None}
use Rattle.tick_units.specs.declared.task.Task.{Task}
use Rattle.tick_units.specs.declared.task.Task.TheVariants.{Effect}
use Rattle.site_types.specs.declared.event.Event.{Event}
use Rattle.site_types.specs.declared.event.Event.TheVariants.{Confirmed}
use Rattle.site_types.specs.declared.site.Site.{Site}
use Rattle.site_types.specs.Valid.{IsPanel}
use Rattle.marker_table.specs.declared.facts.Facts.{Facts as Masks}
use Rattle.marker_table.specs.Equations.{values_of}
use Rattle.panel_rules.specs.Latest.{made_latest}
use Rattle.panel_rules.specs.Moments.{Moment as MomentOf, Began as BeganOf, Happened as HappenedOf}
use Rattle.panel_rules.specs.Moments.{Turned as TurnedOf, Kept as KeptOf, is_turn, tick_of}
use Rattle.panel_rules.specs.Markers.{Facts, hand_facts, solution}
use Rattle.panel_bridges.specs.FactMasks.{AreFacts, AreZones}
use Rattle.plain_outputs.specs.declared.driving.Driving.{Driving}
use Rattle.plain_outputs.specs.declared.seen.Seen.{Seen}
use Rattle.plain_history.specs.Histories.{moment_of}

-- a moment is a turn of a panel's task
abbrev pub is_turn_of : ℕ → Task → MomentOf → Bool
is_turn_of panel task BeganOf = false
is_turn_of panel task (HappenedOf event) = false
is_turn_of panel task (TurnedOf other_panel other) = is_turn panel task other_panel other
is_turn_of panel task (KeptOf failed) = false

-- a moment begins a tick
abbrev pub is_beginning : MomentOf → Bool
is_beginning BeganOf = true
is_beginning (HappenedOf event) = false
is_beginning (TurnedOf panel task) = false
is_beginning (KeptOf failed) = false

-- a moment is a turn of Effect
abbrev pub is_effect_task : Task → Bool
is_effect_task Effect = true
is_effect_task _ = false

abbrev pub is_effect : MomentOf → Bool
is_effect BeganOf = false
is_effect (HappenedOf event) = false
is_effect (TurnedOf panel task) = is_effect_task task
is_effect (KeptOf failed) = false

-- what had befallen before the latest turn of a panel's task, if it had one
abbrev pub before_latest : ℕ → Task → List MomentOf → Option (List MomentOf)
before_latest panel task history = made_latest None panel task (λ before. Some before) history

-- a moment is a confirmation of an output
abbrev pub is_confirmed_by : ℕ → Event → Bool
is_confirmed_by output (Confirmed other) = other == output
is_confirmed_by output _ = false

abbrev pub is_confirmation : ℕ → MomentOf → Bool
is_confirmation output BeganOf = false
is_confirmation output (HappenedOf event) = is_confirmed_by output event
is_confirmation output (TurnedOf panel task) = false
is_confirmation output (KeptOf failed) = false

-- the first of some ticks, and the greatest, else 0
abbrev pub newest : List ℕ → Option ℕ
newest [] = None
newest (tick ∷ ticks) = Some tick

abbrev pub greatest : List ℕ → ℕ
greatest [] = 0
greatest (tick ∷ ticks) = max tick (greatest ticks)

module _ (site : Site) (facts : ℕ → List MomentOf → Facts) where
  -- where a moment after a history is a turn of Effect of a panel of the site, masks are the facts of that
  -- turn
  abbrev pub AreFactsOfTurn : List MomentOf → MomentOf → Masks → Type 0
  AreFactsOfTurn before moment masks = (panel : ℕ) → IsPanel site panel → moment ≡ TurnedOf panel Effect
      → AreFacts site (facts panel before) masks

  -- what an Effect turn solved, from its facts
  pub record IsSolved (facts_then : Facts) (seen : Seen) : Type 0 where
    pub released : AreZones site facts_then.released seen.released
    pub values : (marker : ℕ) → values_of seen.values marker ≡ solution site facts_then marker
    pub by_hand : (marker : ℕ) → values_of seen.by_hand marker ≡ solution site (hand_facts facts_then) marker

  -- what is kept of a moment: itself, the tick that had begun before it, and of an Effect turn of a panel of
  -- the site what it solved
  pub record IsSeen (moment : MomentOf) (before : List MomentOf) (seen : Seen) : Type 0 where
    pub is : moment_of seen.moment ≡ moment
    pub tick : seen.tick.0 ≡ tick_of before
    pub solved : (panel : ℕ) → IsPanel site panel → moment ≡ TurnedOf panel Effect
        → IsSolved (facts panel before) seen

  -- what is kept of each moment of a history, the newest first
  abbrev pub AreSeenBack : List Seen → List MomentOf → Type 0
  AreSeenBack [] [] = Unit {0}
  AreSeenBack [] (moment ∷ before) = ⊥
  AreSeenBack (seen ∷ earlier) [] = ⊥
  AreSeenBack (seen ∷ earlier) (moment ∷ before) = IsSeen moment before seen × AreSeenBack earlier before

  -- what is kept of each moment of a history, the oldest first
  abbrev pub AreSeen : List Seen → List MomentOf → Type 0
  AreSeen seen history = AreSeenBack (reverse seen) history

  -- the latest turn of a panel's task was seen at a place
  pub record IsLatestAt (panel : ℕ) (task : Task) (seen : List Seen) (history : List MomentOf) (place : ℕ) :
      Type 0 where
    pub before : List MomentOf
    pub latest : before_latest panel task history ≡ Some before
    pub earlier : AreSeen (take place seen) before
    pub turn : Seen
    pub found : slice_get seen place ≡ Some turn
    pub is_seen : IsSeen (TurnedOf panel task) before turn

  -- the place at which the latest turn of a panel's task was seen, or none where there was no such turn
  abbrev pub IsLatest : ℕ → Task → List Seen → List MomentOf → Option ℕ → Type 0
  IsLatest panel task seen history None = before_latest panel task history ≡ None
  IsLatest panel task seen history (Some place) = IsLatestAt panel task seen history place

  -- each moment of the history was seen
  abbrev pub DrivesFor : List MomentOf → Driving → Type 0
  DrivesFor history driving = AreSeen driving.seen.items history
