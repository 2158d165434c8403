-- What is told of outputs from the moments that were seen, and what must be kept to tell it.
use Rattle.std.specs.Prelude.{◌≡◌, ◌+◌, ◌||◌, ℕ, Bool, List, ◌∷◌, nat_le}
use Rattle.tick_units.specs.declared.task.Task.TheVariants.{Drive}
use Rattle.site_types.specs.declared.site.Site.{Site}
use Rattle.site_types.specs.declared.retained.Retained.{Retained}
use Rattle.site_types.specs.Done.{Done, override_done_in}
use Rattle.marker_table.specs.declared.facts.Facts.{Facts as Masks}
use Rattle.panel_rules.specs.Markers.{Facts}
use Rattle.panel_rules.specs.Moments.{Moment, Turned, tick_of}
use Rattle.panel_rules.specs.Faults.{is_unconfirmed}
use Rattle.panel_rules.specs.Outputs.{delay_of, is_confirmed_out, is_on, is_silenced, outputs_where, panel_of_output}
use Rattle.plain_history.specs.declared.settings.Settings.{Settings}
use Rattle.plain_history.specs.Histories.{all_done}
use Rattle.plain_outputs.specs.declared.driving.Driving.{Driving}
use Rattle.plain_outputs.specs.declared.output_state.OutputState.{OutputState}
use Rattle.plain_outputs.specs.declared.output_state.OutputState.TheVariants.{On, Confirmed, Unconfirmed}
use Rattle.plain_outputs.specs.declared.seen.Seen.{Seen}
use Rattle.plain_outputs.specs.Drives.{AreFactsOfTurn, AreSeen, DrivesFor, IsSeen}

-- a rule on a history, by the facts of each turn of Effect
abbrev pub HistoryRule : Type 0 → Type 0
HistoryRule A = (ℕ → List Moment → Facts) → List Moment → A

-- what is told from the moments seen is what a rule makes of their history, whatever the facts
abbrev pub TellsOf : {A : Type 0} → Site → List Seen → HistoryRule A → A → Type 0
TellsOf site seen rule told =
    (facts : ℕ → List Moment → Facts) (history : List Moment) → AreSeen site facts seen history
    → told ≡ rule facts history

-- a rule of an output, or of a panel, by the facts of each turn of Effect and by settings
abbrev pub OutputRule : Type 0 → Type 0
OutputRule A = Site → (ℕ → List Moment → Facts) → Retained → List Done → ℕ → List Moment → A

-- what is told of an output, or of a panel, from the moments seen is what a rule makes of it by some settings
abbrev pub TellsBy : {A : Type 0} → Settings → ℕ → List Seen → OutputRule A → A → Type 0
TellsBy settings output seen rule told =
    TellsOf settings.site.now seen
    (λ facts. rule settings.site.now facts settings.kept.now (all_done settings.done.now) output) told

module _ (site : Site) (output tick : ℕ) where
  -- what is told at a turn of Drive of an output's panel in a tick, from the moments seen before that turn and those
  -- with it, is what a rule makes of its history
  abbrev pub TellsAtDrive : List Seen → List Seen → HistoryRule Bool → Bool → Type 0
  TellsAtDrive before with_turn rule told =
      (facts : ℕ → List Moment → Facts) (history : List Moment) → AreSeen site facts before history
      → AreSeen site facts with_turn (Turned (panel_of_output site output) Drive ∷ history)
      → tick ≡ tick_of history → told ≡ rule facts history

  -- whether a silence keeps the output quiet at such a turn, from the moments seen with it, whatever is kept
  abbrev pub TellsSilenced : List Done → List Seen → Bool → Type 0
  TellsSilenced done with_turn told =
      (facts : ℕ → List Moment → Facts) (kept : Retained) (history : List Moment)
      → AreSeen site facts with_turn (Turned (panel_of_output site output) Drive ∷ history)
      → tick ≡ tick_of history → told ≡ is_silenced site facts kept done output history

  -- from the tick of a turn on the delay of the output has passed by the tick, or an override was done
  abbrev pub ends_delay : List Done → ℕ → Bool
  ends_delay done first =
      nat_le (first + delay_of site output) tick || override_done_in (panel_of_output site output) first tick done

-- what is told of an output at a turn of Drive in a tick, from the moments seen before that turn and those with it, is
-- what a rule makes of it by some settings
abbrev pub TellsByAtDrive : Settings → ℕ → ℕ → List Seen → List Seen → OutputRule Bool → Bool → Type 0
TellsByAtDrive settings output tick before with_turn rule told =
    TellsAtDrive settings.site.now output tick before with_turn
    (λ facts. rule settings.site.now facts settings.kept.now (all_done settings.done.now) output) told

-- an output is in a state after a history
abbrev pub is_in_state : OutputState → Site → (ℕ → List Moment → Facts) → Retained → List Done → ℕ → List Moment → Bool
is_in_state On site facts kept done output history = is_on site facts kept done output history
is_in_state Confirmed site facts kept done output history = is_confirmed_out site facts kept done output history
is_in_state Unconfirmed site facts kept done output history = is_unconfirmed site facts kept done output history

-- the outputs of a panel that are in a state after a history
abbrev pub outputs_in_state : OutputState → OutputRule ℕ
outputs_in_state state site facts kept done panel history =
    outputs_where site panel (λ output. is_in_state state site facts kept done output history)

-- what is kept of a moment in a tick, where masks are the facts if it is a turn of Effect
abbrev pub IsSeenAt : Site → Moment → ℕ → Masks → Seen → Type 0
IsSeenAt site moment tick masks seen =
    (facts : ℕ → List Moment → Facts) (history : List Moment) → tick ≡ tick_of history
    → AreFactsOfTurn site facts history moment masks → IsSeen site facts moment history seen

-- a moment more is seen, where masks are the facts if it is a turn of Effect
abbrev pub SeesMoment : Site → Moment → Masks → Driving → Driving → Type 0
SeesMoment site moment masks earlier later =
    (facts : ℕ → List Moment → Facts) (history : List Moment) → DrivesFor site facts history earlier
    → AreFactsOfTurn site facts history moment masks → DrivesFor site facts (moment ∷ history) later
