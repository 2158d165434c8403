-- What turns leave of a desk: those of other tasks, and those of a panel at which nothing was asked for.
use Rattle.std.proofs.Common.{◌≡◌, ◌≢◌, ◌∙◌, ℕ, Bool, true, false, List, [], ◌∷◌, if◌then◌else◌, refl, sym, ap, subst}
use Rattle.tick_units.specs.declared.task.Task.{Task}
use Rattle.tick_units.specs.declared.task.Task.TheVariants.{Poll, Decide, Supply, Desk as DeskTask, Hold, Link, Effect, Drive, Keep}
use Rattle.site_types.specs.declared.retained.Retained.{Retained}
use Rattle.site_types.specs.declared.site.Site.{Site}
use Rattle.operation_desk.specs.declared.desk.Desk.{Desk}
use Rattle.operation_desk.specs.Stands.{DesksFor, TellsOutcomes, given_in}
use Rattle.panel_rules.specs.Moments.{Moment, Turned, has_turned, is_turn, tick_of}
use Rattle.panel_rules.specs.Operations.{Operations, after_desk, operations, requests, requests_in}
use Rattle.panel_rules.specs.Timeline.{busy_count}

module _ (site : Site) (kept : Retained) (before : List Moment) (desk : Desk) (other : ℕ) (h : DesksFor site kept before desk) where
  pub desk_left : (task : Task) → task ≢ DeskTask → DesksFor site kept (Turned other task ∷ before) desk
  desk_left DeskTask apart = absurd (apart refl)
  desk_left Poll apart = record { number = h.number; counts = h.counts; asked = h.asked; outcomes = h.outcomes; busy = h.busy; idle = h.idle; failed = h.failed; sized = h.sized }
  desk_left Decide apart = record { number = h.number; counts = h.counts; asked = h.asked; outcomes = h.outcomes; busy = h.busy; idle = h.idle; failed = h.failed; sized = h.sized }
  desk_left Supply apart = record { number = h.number; counts = h.counts; asked = h.asked; outcomes = h.outcomes; busy = h.busy; idle = h.idle; failed = h.failed; sized = h.sized }
  desk_left Hold apart = record { number = h.number; counts = h.counts; asked = h.asked; outcomes = h.outcomes; busy = h.busy; idle = h.idle; failed = h.failed; sized = h.sized }
  desk_left Link apart = record { number = h.number; counts = h.counts; asked = h.asked; outcomes = h.outcomes; busy = h.busy; idle = h.idle; failed = h.failed; sized = h.sized }
  desk_left Effect apart = record { number = h.number; counts = h.counts; asked = h.asked; outcomes = h.outcomes; busy = h.busy; idle = h.idle; failed = h.failed; sized = h.sized }
  desk_left Drive apart = record { number = h.number; counts = h.counts; asked = h.asked; outcomes = h.outcomes; busy = h.busy; idle = h.idle; failed = h.failed; sized = h.sized }
  desk_left Keep apart = record { number = h.number; counts = h.counts; asked = h.asked; outcomes = h.outcomes; busy = h.busy; idle = h.idle; failed = h.failed; sized = h.sized }

  module _ (none : requests_in other (tick_of before) (requests site before) ≡ []) where
    same : operations site kept (Turned other DeskTask ∷ before) ≡ operations site kept before
    same = ap (λ asked. after_desk site kept asked (operations site kept before)) none

    idle_before : (b t : Bool) → (if b then true else t) ≡ false → t ≡ false
    idle_before true t e = absurd (let no_way : true ≡ false = e in cc)
    idle_before false t e = e

    none_taken : DesksFor site kept (Turned other DeskTask ∷ before) desk
    none_taken = record {
      number = h.number;
      counts = h.counts;
      asked = h.asked;
      outcomes = subst (λ (ops : Operations). TellsOutcomes site kept (requests site before) (tick_of before) ops desk) (sym same) h.outcomes;
      busy = λ panel p.
          h.busy panel p ∙ ap (λ (ops : Operations). busy_count panel (given_in site kept (tick_of before) ops.answers (requests site before))) (sym same);
      idle = λ panel p yet. h.idle panel p (idle_before (is_turn panel DeskTask other DeskTask) (has_turned panel DeskTask before) yet);
      failed = h.failed;
      sized = h.sized;
    }

    -- each turn of that panel
    pub desk_idle : (task : Task) → DesksFor site kept (Turned other task ∷ before) desk
    desk_idle DeskTask = none_taken
    desk_idle Poll = desk_left Poll (λ e. cc)
    desk_idle Decide = desk_left Decide (λ e. cc)
    desk_idle Supply = desk_left Supply (λ e. cc)
    desk_idle Hold = desk_left Hold (λ e. cc)
    desk_idle Link = desk_left Link (λ e. cc)
    desk_idle Effect = desk_left Effect (λ e. cc)
    desk_idle Drive = desk_left Drive (λ e. cc)
    desk_idle Keep = desk_left Keep (λ e. cc)
