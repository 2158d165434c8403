-- Steps over turns one after another.
use Rattle.std.proofs.Common.{◌≡◌, ◌∙◌, ◌++◌, ℕ, Bool, List, [], ◌∷◌, refl, sym, subst}
use Rattle.tick_units.specs.declared.seat.Seat.{Seat}
use Rattle.tick_units.specs.declared.task.Task.{Task}
use Rattle.tick_units.specs.declared.task.Task.TheVariants.{Keep}
use Rattle.site_types.specs.declared.retained.Retained.{Retained}
use Rattle.site_types.specs.declared.site.Site.{Site}
use Rattle.panel_rules.specs.Markers.{Facts}
use Rattle.panel_rules.specs.Moments.{Moment, and_turns, turn_of}
use Rattle.panel_parts.specs.Applied.{applied}
use Rattle.panel_core.specs.Changes.{AreOfPanels}
use Rattle.panel_core.specs.StepCounts.{RisesAt, RisesOver}
use Rattle.panel_parts.proofs.Applied.{applied_stays}
use Rattle.panel_core.proofs.Orders.{turn_is, turns_tick}

-- what is in force stays so over the turns of a tick
pub applied_over : (site : Site) (kept : Retained) (failed : Bool) (seats : List Seat) (before : List Moment)
    → applied site kept (and_turns failed seats before) ≡ applied site kept before
applied_over site kept failed [] before = refl
applied_over site kept failed (seat ∷ seats) before =
    applied_over site kept failed seats (turn_of failed seat.panel seat.task ∷ before)
    ∙ sym (applied_stays site kept (turn_of failed seat.panel seat.task) before (turns_tick failed (seat ∷ []) before))

module _ (site : Site) (facts : ℕ → List Moment → Facts) where
  -- one turn more
  pub rises_more : (failed : Bool) (seats : List Seat) (seat : Seat) (before : List Moment) (a b c : ℕ)
      → RisesOver site facts failed seats before a b → RisesAt site facts seat.panel seat.task (and_turns failed seats before) b c
      → RisesOver site facts failed (seats ++ seat ∷ []) before a c
  rises_more failed [] seat before a b c none turn = (c, subst (λ n. RisesAt site facts seat.panel seat.task before n c) none turn, refl)
  rises_more failed (first ∷ seats) seat before a b c (between, at, rest) turn =
      (between, at, rises_more failed seats seat (turn_of failed first.panel first.task ∷ before) between b c rest turn)

  -- those of turns and of the turns behind them
  pub rises_both : (failed : Bool) (xs ys : List Seat) (before : List Moment) (a b c : ℕ)
      → RisesOver site facts failed xs before a b → RisesOver site facts failed ys (and_turns failed xs before) b c
      → RisesOver site facts failed (xs ++ ys) before a c
  rises_both failed [] ys before a b c none rest = subst (λ n. RisesOver site facts failed ys before n c) none rest
  rises_both failed (x ∷ xs) ys before a b c (between, at, more) rest =
      (between, at, rises_both failed xs ys (turn_of failed x.panel x.task ∷ before) between b c more rest)

  -- whether Keep fails is nothing to the turns of panels
  pub rises_either : (failed other : Bool) (seats : List Seat) (before : List Moment) (a b : ℕ) → AreOfPanels seats
      → RisesOver site facts failed seats before a b → RisesOver site facts other seats before a b
  rises_either failed other [] before a b all h = h
  rises_either failed other (seat ∷ seats) before a b all (between, at, rest) = (
    between,
    at,
    rises_either failed other seats (turn_of other seat.panel seat.task ∷ before) between b all.1
        (subst (λ m. RisesOver site facts failed seats (m ∷ before) between b)
        (turn_is failed seat.panel seat.task all.0 ∙ sym (turn_is other seat.panel seat.task all.0)) rest),
  )

  -- a turn of Keep is no step
  pub keep_rises : (panel : ℕ) (task : Task) (before : List Moment) (a : ℕ) → task ≡ Keep → RisesAt site facts panel task before a a
  keep_rises panel task before a is = rw is refl
