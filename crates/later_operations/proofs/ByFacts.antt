-- Requests, silences and what Drive is told go by the facts of the Effect turns made by then: facts that agree on the histories that pass
-- a test give the same, where each earlier part of a history that passes it passes it too.
use Rattle.std.proofs.Common.{◌≡◌, ℕ, ◌==◌, List, [], ◌∷◌, Option, Some, None, Bool, false, if◌then◌else◌, refl, ◌∙◌, ap}
use Rattle.std.proofs.Math.Path.{fun_ext}
use Rattle.tick_units.specs.declared.task.Task.TheVariants.{Effect, Drive}
use Rattle.site_types.specs.declared.requests.Requests.{Requests}
use Rattle.site_types.specs.declared.retained.Retained.{Retained}
use Rattle.site_types.specs.declared.site.Site.{Site}
use Rattle.site_types.specs.Done.{Done, silence_before}
use Rattle.output_delays.specs.Runs.{Call as DelayCall, Turned as DelayTurn}
use Rattle.sounder_control.specs.Quiet.{Call as SilenceCall, Drove}
use Rattle.panel_rules.specs.Moments.{Moment, Began, Happened, Turned, Kept, tick_of, up_to}
use Rattle.panel_rules.specs.Markers.{Facts, hand_facts}
use Rattle.panel_rules.specs.Outputs.{is_true_over, outputs_where, panel_of_output, is_requested, is_requested_by_hand, asked_run}
use Rattle.panel_rules.specs.Outputs.{released_at_effect, released_at_drive, stays_within, silence_holds, goes_on}
use Rattle.output_calls.specs.DelayCalls.{and_delaying, delay_calls, requests_at}
use Rattle.output_calls.specs.DoneCalls.{and_done_in}
use Rattle.output_calls.specs.SilenceCalls.{and_silencing, silence_calls, zone_masks}
use Rattle.later_operations.proofs.Earlier.{Earlier, then_earlier, earlier_up_to, made_stays}

module _ (Q : List Moment → Type 0) (tail : (moment : Moment) (before : List Moment) → Q (moment ∷ before) → Q before)
    (site : Site) (facts others : ℕ → List Moment → Facts)
    (agree : (panel : ℕ) (b : List Moment) → Q b → facts panel b ≡ others panel b) where
  pub requested_by_facts : (output : ℕ) (m : List Moment) → Earlier Q m → is_requested site facts output m ≡ is_requested site others output m
  requested_by_facts output m q =
      made_stays Q tail false (panel_of_output site output) Effect (λ b. is_true_over site output (facts (panel_of_output site output) b))
      (λ b. is_true_over site output (others (panel_of_output site output) b))
      (λ b s. ap (is_true_over site output) (agree (panel_of_output site output) b s)) m q

  pub hand_by_facts : (output : ℕ) (m : List Moment) → Earlier Q m
      → is_requested_by_hand site facts output m ≡ is_requested_by_hand site others output m
  hand_by_facts output m q =
      made_stays Q tail false (panel_of_output site output) Effect
      (λ b. is_true_over site output (hand_facts (facts (panel_of_output site output) b)))
      (λ b. is_true_over site output (hand_facts (others (panel_of_output site output) b)))
      (λ b s. ap (λ f. is_true_over site output (hand_facts f)) (agree (panel_of_output site output) b s)) m q

  pub asked_run_by_facts : (output : ℕ) (m : List Moment) → Earlier Q m → asked_run site facts output m ≡ asked_run site others output m
  asked_run_by_facts output [] q = refl
  asked_run_by_facts output (Began ∷ before) q = asked_run_by_facts output before (then_earlier Q tail before q)
  asked_run_by_facts output (Happened event ∷ before) q = asked_run_by_facts output before (then_earlier Q tail before q)
  asked_run_by_facts output (Turned panel Drive ∷ before) q =
      rw (requested_by_facts output before (then_earlier Q tail before q), asked_run_by_facts output before (then_earlier Q tail before q)) refl
  asked_run_by_facts output (Turned panel task ∷ before) q = asked_run_by_facts output before (then_earlier Q tail before q)
  asked_run_by_facts output (Kept failed ∷ before) q = asked_run_by_facts output before (then_earlier Q tail before q)

  pub released_by_facts : (panel : ℕ) (m : List Moment) → Earlier Q m → released_at_effect site facts panel m ≡ released_at_effect site others panel m
  released_by_facts panel m q =
      made_stays Q tail (λ zone. false) panel Effect (λ b. (facts panel b).released) (λ b. (others panel b).released)
      (λ b s. ap (λ (f : Facts). f.released) (agree panel b s)) m q

  pub driven_by_facts : (panel : ℕ) (m : List Moment) → Earlier Q m → released_at_drive site facts panel m ≡ released_at_drive site others panel m
  driven_by_facts panel m q =
      made_stays Q tail (λ zone. false) panel Drive (released_at_effect site facts panel) (released_at_effect site others panel)
      (λ b s. released_by_facts panel b (then_earlier Q tail b s)) m q

  pub within_by_facts : (panel since : ℕ) (zones : ℕ → Bool) (m : List Moment) → Earlier Q m
      → stays_within site facts panel since zones m ≡ stays_within site others panel since zones m
  within_by_facts panel since zones [] q = refl
  within_by_facts panel since zones (Began ∷ before) q = within_by_facts panel since zones before (then_earlier Q tail before q)
  within_by_facts panel since zones (Happened event ∷ before) q = within_by_facts panel since zones before (then_earlier Q tail before q)
  within_by_facts panel since zones (Turned other Drive ∷ before) q =
      rw (released_by_facts panel before (then_earlier Q tail before q), within_by_facts panel since zones before (then_earlier Q tail before q)) refl
  within_by_facts panel since zones (Turned other task ∷ before) q = within_by_facts panel since zones before (then_earlier Q tail before q)
  within_by_facts panel since zones (Kept failed ∷ before) q = within_by_facts panel since zones before (then_earlier Q tail before q)

  pub silence_by_facts : (panel : ℕ) (m : List Moment) (o : Option ℕ) → Earlier Q m
      → silence_holds site facts panel m o ≡ silence_holds site others panel m o
  silence_by_facts panel m None q = refl
  silence_by_facts panel m (Some tick) q =
      ap (λ zones. stays_within site facts panel tick zones m) (driven_by_facts panel (up_to tick m) (earlier_up_to Q tail tick m q))
      ∙ within_by_facts panel tick (released_at_drive site others panel (up_to tick m)) m q

  pub goes_by_facts : (kept : Retained) (done : List Done) (output : ℕ) (before : List Moment) → Q before
      → goes_on site facts kept done output before ≡ goes_on site others kept done output before
  goes_by_facts kept done output before q =
      let asked = requested_by_facts output before (then_earlier Q tail before q) in
      let hand = hand_by_facts output before (then_earlier Q tail before q) in
      let run = asked_run_by_facts output before (then_earlier Q tail before q) in
      let quiet =
      silence_by_facts (panel_of_output site output) (Turned (panel_of_output site output) Drive ∷ before)
      (silence_before (panel_of_output site output) (tick_of before) done) q in
      rw (asked, hand, run, quiet) refl

  pub requests_by_facts : (panel : ℕ) (m : List Moment) → Earlier Q m → requests_at site facts panel m ≡ requests_at site others panel m
  requests_by_facts panel m q =
      same_requests (fun_ext (λ output. requested_by_facts output m q)) (fun_ext (λ output. hand_by_facts output m q))
    where
      same_requests : {f g h k : ℕ → Bool} → f ≡ g → h ≡ k
          → ◌≡◌ {A = Requests} (record { asked = outputs_where site panel f; manual = outputs_where site panel h })
          (record { asked = outputs_where site panel g; manual = outputs_where site panel k })
      same_requests e d = cc

  pub delays_by_facts : (done : List Done) (panel : ℕ) (m : List Moment) → Earlier Q m
      → delay_calls site facts done panel m ≡ delay_calls site others done panel m
  delays_by_facts done panel [] q = refl
  delays_by_facts done panel (Began ∷ before) q =
      ap (and_done_in (and_delaying (tick_of before)) panel (tick_of before) done) (delays_by_facts done panel before (then_earlier Q tail before q))
  delays_by_facts done panel (Happened event ∷ before) q = delays_by_facts done panel before (then_earlier Q tail before q)
  delays_by_facts done panel (Turned other Drive ∷ before) q =
      ap (λ (calls : List DelayCall). if other == panel then DelayTurn (tick_of before) (requests_at site facts panel before) ∷ calls else calls)
      (delays_by_facts done panel before (then_earlier Q tail before q))
      ∙ ap (λ (asked : Requests). if other == panel then DelayTurn (tick_of before) asked
      ∷ delay_calls site others done panel before else delay_calls site others done panel before)
      (requests_by_facts panel before (then_earlier Q tail before q))
  delays_by_facts done panel (Turned other task ∷ before) q = delays_by_facts done panel before (then_earlier Q tail before q)
  delays_by_facts done panel (Kept failed ∷ before) q = delays_by_facts done panel before (then_earlier Q tail before q)

  pub silences_by_facts : (done : List Done) (panel : ℕ) (m : List Moment) → Earlier Q m
      → silence_calls site facts done panel m ≡ silence_calls site others done panel m
  silences_by_facts done panel [] q = refl
  silences_by_facts done panel (Began ∷ before) q =
      ap (and_done_in and_silencing panel (tick_of before) done) (silences_by_facts done panel before (then_earlier Q tail before q))
  silences_by_facts done panel (Happened event ∷ before) q = silences_by_facts done panel before (then_earlier Q tail before q)
  silences_by_facts done panel (Turned other Drive ∷ before) q =
      ap (λ (calls : List SilenceCall). if other == panel then Drove (zone_masks site (released_at_effect site facts panel before))
      ∷ calls else calls) (silences_by_facts done panel before (then_earlier Q tail before q))
      ∙ ap (λ (zones : ℕ → Bool). if other == panel then Drove (zone_masks site zones)
      ∷ silence_calls site others done panel before else silence_calls site others done panel before)
      (released_by_facts panel before (then_earlier Q tail before q))
  silences_by_facts done panel (Turned other task ∷ before) q = silences_by_facts done panel before (then_earlier Q tail before q)
  silences_by_facts done panel (Kept failed ∷ before) q = silences_by_facts done panel before (then_earlier Q tail before q)
