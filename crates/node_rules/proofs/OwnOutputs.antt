-- Whether an output is on goes by the facts of its own panel's turns of Effect alone.
use Rattle.std.proofs.Common.{◌≡◌, ◌∙◌, ◌&&◌, not, ℕ, List, [], ◌∷◌, Option, Some, None, Bool, false, slice_get, refl, ap}
use Rattle.tick_units.specs.declared.task.Task.TheVariants.{Effect, Drive}
use Rattle.site_types.specs.declared.retained.Retained.{Retained}
use Rattle.site_types.specs.declared.site.Site.{Site}
use Rattle.site_types.specs.Done.{Done, silence_before}
use Rattle.site_types.specs.Events.{is_confirming}
use Rattle.site_types.specs.Profile.{routing_of}
use Rattle.panel_rules.specs.Faults.{is_unconfirmed}
use Rattle.panel_rules.specs.Moments.{Moment, Began, Happened, Turned, Kept, tick_of, up_to}
use Rattle.panel_rules.specs.Markers.{Facts, hand_facts}
use Rattle.panel_rules.specs.Outputs.{asked_run, confirmations, goes_on, has_lasted, is_confirmed_in, is_confirmed_out, is_on, is_requested, is_requested_by_hand, is_true_over}
use Rattle.panel_rules.specs.Outputs.{on_output, on_run, panel_of_output, released_at_drive, released_at_effect, silence_holds, stays_within}
use Rattle.later_operations.proofs.Earlier.{Earlier, then_earlier, earlier_up_to, made_stays}

module _ (Q : List Moment → Type 0) (tail : (moment : Moment) (before : List Moment) → Q (moment ∷ before) → Q before)
    (site : Site) (facts others : ℕ → List Moment → Facts) (output : ℕ)
    (agree : (b : List Moment) → Q b → facts (panel_of_output site output) b ≡ others (panel_of_output site output) b) where
  abbrev panel : ℕ
  panel = panel_of_output site output

  requested_by_facts : (m : List Moment) → Earlier Q m → is_requested site facts output m ≡ is_requested site others output m
  requested_by_facts m q =
      made_stays Q tail false (panel_of_output site output) Effect (λ b. is_true_over site output (facts (panel_of_output site output) b))
      (λ b. is_true_over site output (others (panel_of_output site output) b))
      (λ b s. ap (is_true_over site output) (agree b s)) m q

  hand_by_facts : (m : List Moment) → Earlier Q m
      → is_requested_by_hand site facts output m ≡ is_requested_by_hand site others output m
  hand_by_facts m q =
      made_stays Q tail false (panel_of_output site output) Effect
      (λ b. is_true_over site output (hand_facts (facts (panel_of_output site output) b)))
      (λ b. is_true_over site output (hand_facts (others (panel_of_output site output) b)))
      (λ b s. ap (λ f. is_true_over site output (hand_facts f)) (agree b s)) m q

  asked_run_by_facts : (m : List Moment) → Earlier Q m → asked_run site facts output m ≡ asked_run site others output m
  asked_run_by_facts [] q = refl
  asked_run_by_facts (Began ∷ before) q = asked_run_by_facts before (then_earlier Q tail before q)
  asked_run_by_facts (Happened event ∷ before) q = asked_run_by_facts before (then_earlier Q tail before q)
  asked_run_by_facts (Turned at Drive ∷ before) q =
      rw (requested_by_facts before (then_earlier Q tail before q), asked_run_by_facts before (then_earlier Q tail before q)) refl
  asked_run_by_facts (Turned at task ∷ before) q = asked_run_by_facts before (then_earlier Q tail before q)
  asked_run_by_facts (Kept failed ∷ before) q = asked_run_by_facts before (then_earlier Q tail before q)

  released_by_facts : (m : List Moment) → Earlier Q m → released_at_effect site facts panel m ≡ released_at_effect site others panel m
  released_by_facts m q =
      made_stays Q tail (λ zone. false) panel Effect (λ b. (facts panel b).released) (λ b. (others panel b).released)
      (λ b s. ap (λ (f : Facts). f.released) (agree b s)) m q

  driven_by_facts : (m : List Moment) → Earlier Q m → released_at_drive site facts panel m ≡ released_at_drive site others panel m
  driven_by_facts m q =
      made_stays Q tail (λ zone. false) panel Drive (released_at_effect site facts panel) (released_at_effect site others panel)
      (λ b s. released_by_facts b (then_earlier Q tail b s)) m q

  within_by_facts : (since : ℕ) (zones : ℕ → Bool) (m : List Moment) → Earlier Q m
      → stays_within site facts panel since zones m ≡ stays_within site others panel since zones m
  within_by_facts since zones [] q = refl
  within_by_facts since zones (Began ∷ before) q = within_by_facts since zones before (then_earlier Q tail before q)
  within_by_facts since zones (Happened event ∷ before) q = within_by_facts since zones before (then_earlier Q tail before q)
  within_by_facts since zones (Turned other Drive ∷ before) q =
      rw (released_by_facts before (then_earlier Q tail before q), within_by_facts since zones before (then_earlier Q tail before q)) refl
  within_by_facts since zones (Turned other task ∷ before) q = within_by_facts since zones before (then_earlier Q tail before q)
  within_by_facts since zones (Kept failed ∷ before) q = within_by_facts since zones before (then_earlier Q tail before q)

  silence_by_facts : (m : List Moment) (o : Option ℕ) → Earlier Q m
      → silence_holds site facts panel m o ≡ silence_holds site others panel m o
  silence_by_facts m None q = refl
  silence_by_facts m (Some tick) q =
      ap (λ zones. stays_within site facts panel tick zones m) (driven_by_facts (up_to tick m) (earlier_up_to Q tail tick m q))
      ∙ within_by_facts tick (released_at_drive site others panel (up_to tick m)) m q

  goes_by_facts : (kept : Retained) (done : List Done) (before : List Moment) → Q before
      → goes_on site facts kept done output before ≡ goes_on site others kept done output before
  goes_by_facts kept done before q =
      let asked = requested_by_facts before (then_earlier Q tail before q) in
      let hand = hand_by_facts before (then_earlier Q tail before q) in
      let run = asked_run_by_facts before (then_earlier Q tail before q) in
      let quiet =
      silence_by_facts (Turned (panel_of_output site output) Drive ∷ before)
      (silence_before (panel_of_output site output) (tick_of before) done) q in
      rw (asked, hand, run, quiet) refl

  -- so do the runs of ticks in which it was on
  module _ (kept : Retained) (done : List Done) where
    pub on_own : (m : List Moment) → Earlier Q m → is_on site facts kept done output m ≡ is_on site others kept done output m
    on_own m q =
        made_stays Q tail false panel Drive (goes_on site facts kept done output) (goes_on site others kept done output) (goes_by_facts kept done) m q

    pub on_run_own : (m : List Moment) → Earlier Q m → on_run site facts kept done output m ≡ on_run site others kept done output m
    on_run_own [] q = refl
    on_run_own (Began ∷ before) q = on_run_own before (then_earlier Q tail before q)
    on_run_own (Happened event ∷ before) q = on_run_own before (then_earlier Q tail before q)
    on_run_own (Turned at Drive ∷ before) q = rw (goes_by_facts kept done before q, on_run_own before (then_earlier Q tail before q)) refl
    on_run_own (Turned at task ∷ before) q = on_run_own before (then_earlier Q tail before q)
    on_run_own (Kept failed ∷ before) q = on_run_own before (then_earlier Q tail before q)

    -- and what comes of it
    pub confirmed_own : (m : List Moment) → Earlier Q m → is_confirmed_out site facts kept done output m ≡ is_confirmed_out site others kept done output m
    confirmed_own m q = ap (λ run. is_confirmed_in run (confirmations output m)) (on_run_own m q)

    pub unconfirmed_own : (m : List Moment) → Earlier Q m → is_unconfirmed site facts kept done output m ≡ is_unconfirmed site others kept done output m
    unconfirmed_own m q =
        ap (λ run. on_output (λ o. is_confirming o.kind) (slice_get site.outputs output)
        && (has_lasted (routing_of site.format) run && not (is_confirmed_in run (confirmations output m)))) (on_run_own m q)
