-- Written cases of steps: what the turns of one panel's tick, in canonical order, ask of the counter.
use Rattle.std.specs.Prelude.{◌≡◌, ◌+◌, ◌==◌, ℕ, Bool, false, List, ◌∷◌}
use Rattle.tick_units.specs.declared.task.Task.TheVariants.{Poll, Decide, Supply, Desk, Hold, Link}
use Rattle.tick_units.specs.Orders.{canonical_seats}
use Rattle.site_types.specs.declared.site.Site.{Site}
use Rattle.cause_effect.specs.Changes.{differ}
use Rattle.cause_effect.specs.Written.{AreTwo}
use Rattle.panel_effects.specs.Stands.{facts_at_effect}
use Rattle.panel_rules.specs.Markers.{Facts}
use Rattle.panel_rules.specs.Moments.{Moment, Turned}
use Rattle.panel_core.specs.StepCounts.{RisesOver}

-- no fact is otherwise at one time than at the other
pub record AreAlike (before after : Facts) : Type 0 where
  pub released : (zone : ℕ) → differ (before.released zone) (after.released zone) ≡ false
  pub by_hand : (zone : ℕ) → differ (before.by_hand zone) (after.by_hand zone) ≡ false
  pub faulty : (panel : ℕ) → differ (before.faulty panel) (after.faulty panel) ≡ false

-- a zone alone was released in between, and not by hand
pub record ReleasesZone (zone : ℕ) (before after : Facts) : Type 0 where
  pub released : (place : ℕ) → differ (before.released place) (after.released place) ≡ (place == zone)
  pub by_hand : (place : ℕ) → differ (before.by_hand place) (after.by_hand place) ≡ false

-- a zone alone was released in between, and by hand
pub record ReleasesByHand (zone : ℕ) (before after : Facts) : Type 0 where
  pub released : (place : ℕ) → differ (before.released place) (after.released place) ≡ (place == zone)
  pub by_hand : (place : ℕ) → differ (before.by_hand place) (after.by_hand place) ≡ (place == zone)

-- what had befallen when panel 1 has its turn of Effect in canonical order
abbrev pub at_effect : List Moment → List Moment
at_effect before = Turned 1 Link ∷ Turned 1 Hold ∷ Turned 1 Desk ∷ Turned 1 Supply ∷ Turned 1 Decide ∷ Turned 1 Poll
    ∷ before

-- between the facts of the panel's turn of Effect before and those of the one in this tick something is so
abbrev pub FromTurnToTurn : (Facts → Facts → Type 0) → (ℕ → List Moment → Facts) → List Moment → Type 0
FromTurnToTurn IsSo facts before = IsSo (facts_at_effect facts 1 before) (facts 1 (at_effect before))

-- the turns of a tick of one panel ask so many steps of the counter, whatever had befallen and whether or not Keep
-- fails, where something is so between the facts of its turn of Effect before and those of the one in this tick
abbrev pub TakesSteps : ℕ → Site → (Facts → Facts → Type 0) → Type 0
TakesSteps steps site IsSo =
    (facts : ℕ → List Moment → Facts) (before : List Moment) (failed : Bool) (earlier later : ℕ)
    → FromTurnToTurn IsSo facts before
    → RisesOver site facts failed (canonical_seats 1) before earlier later → later ≡ earlier + steps

abbrev pub UnchangedNoStep : Type 0
UnchangedNoStep = (site : Site) → TakesSteps 0 site AreAlike

abbrev pub ByDetectorTwoSteps : Type 0
ByDetectorTwoSteps = (site : Site) (hall lab : ℕ) → AreTwo site hall lab → TakesSteps 2 site (ReleasesZone hall)

abbrev pub ByCallPointFourSteps : Type 0
ByCallPointFourSteps = (site : Site) (hall lab : ℕ) → AreTwo site hall lab → TakesSteps 4 site (ReleasesByHand hall)
