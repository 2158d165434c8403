-- What outputs do is the same by two accounts that are alike, where the facts of Effect's turns are.
use Rattle.std.proofs.Common.{◌≡◌, ℕ, ◌+◌, ◌≤◌, ◌==◌, ◌&&◌, ◌||◌, not, Bool, false, List, [], ◌∷◌, Option, Some, None, slice_get}
use Rattle.std.proofs.Common.{if◌then◌else◌, refl, ◌∙◌, ap, arith}
use Rattle.std.specs.Prelude.{nat_le, nat_lt}
use Rattle.std.specs.List.{list_any}
use Rattle.tick_units.specs.declared.task.Task.{Task}
use Rattle.tick_units.specs.declared.task.Task.TheVariants.{Drive, Effect}
use Rattle.site_types.specs.declared.output.Output.{Output}
use Rattle.site_types.specs.declared.site.Site.{Site}
use Rattle.site_types.specs.Done.{DelaysOff, OutputOff, in_force, silence_before}
use Rattle.site_types.specs.Events.{is_confirming}
use Rattle.site_types.specs.Profile.{routing_of}
use Rattle.site_types.specs.Valid.{IsValid}
use Rattle.site_types.proofs.ValidSites.{output_at}
use Rattle.panel_rules.specs.Faults.{is_unconfirmed}
use Rattle.panel_rules.specs.Latest.{made_latest}
use Rattle.panel_rules.specs.Markers.{Facts, hand_facts}
use Rattle.panel_rules.specs.Moments.{Moment, Began, Happened, Turned, Kept, is_turn, tick_of, up_to}
use Rattle.panel_rules.specs.Outputs.{and_confirmation, asked_run, confirmations, delay_of, goes_on, has_lasted, is_confirmed_in, is_confirmed_out}
use Rattle.panel_rules.specs.Outputs.{is_on, is_over, is_quiet, is_requested, is_requested_by_hand, is_sounder, is_true_over, is_within}
use Rattle.panel_rules.specs.Outputs.{may_act, on_output, on_run, panel_of_output, panel_of_plan, released_at_drive, released_at_effect}
use Rattle.panel_rules.specs.Outputs.{silence_holds, stays_within}
use Rattle.panel_rules.proofs.Turns.{tick_rises}
use Rattle.panel_laws.proofs.DueOn.{up_to_is_past}
use Rattle.audit_laws.specs.AlikeOutputs.{AreAlikeAccounts}
use Rattle.audit_laws.specs.AlikeZones.{Account}
use Rattle.audit_laws.specs.RecordedMoments.{without_failures}
use Rattle.audit_laws.proofs.MomentsTold.{tick_same, up_to_same}

-- what the latest turn of a task made, where it makes the same
pub made_alike : {X : Type 0} (limit : ℕ) (none : X) (panel : ℕ) (task : Task) (makes others : List Moment → X)
    → ((m : List Moment) → tick_of m ≤ limit → makes (without_failures m) ≡ others m) → (m : List Moment) → tick_of m ≤ limit
    → made_latest none panel task makes (without_failures m) ≡ made_latest none panel task others m
made_alike limit none panel task makes others same [] by = refl
made_alike limit none panel task makes others same (Began ∷ before) by = made_alike limit none panel task makes others same before (omega (arith, by))
made_alike limit none panel task makes others same (Happened event ∷ before) by = made_alike limit none panel task makes others same before by
made_alike {X = X} limit none panel task makes others same (Turned other_panel other ∷ before) by =
    ap (λ (v : X). if is_turn panel task other_panel other then v else made_latest none panel task makes (without_failures before)) (same before by)
    ∙ ap (λ (v : X). if is_turn panel task other_panel other then others before else v) (made_alike limit none panel task makes others same before by)
made_alike limit none panel task makes others same (Kept failed ∷ before) by = made_alike limit none panel task makes others same before by

any_same : (f g : ℕ → Bool) → ((a : ℕ) → f a ≡ g a) → (xs : List ℕ) → list_any f xs ≡ list_any g xs
any_same f g same [] = refl
any_same f g same (x ∷ xs) = ap (λ (b : Bool). b || list_any f xs) (same x) ∙ ap (λ (b : Bool). g x || b) (any_same f g same xs)

acts_same : (hand hand_too off off_too over over_too instant : Bool) → hand ≡ hand_too → off ≡ off_too → over ≡ over_too
    → ((hand || instant) || (off || over)) ≡ ((hand_too || instant) || (off_too || over_too))
acts_same hand hand_too off off_too over over_too instant p q r = cc

goes_same : (asked asked_too off off_too quiet quiet_too acts acts_too : Bool) → asked ≡ asked_too → off ≡ off_too → quiet ≡ quiet_too
    → acts ≡ acts_too → ((asked && not off) && (not quiet && acts)) ≡ ((asked_too && not off_too) && (not quiet_too && acts_too))
goes_same asked asked_too off off_too quiet quiet_too acts acts_too p q r s = cc

-- a run of ticks goes on, or ends
run_on : (own here here_too : Bool) (tick tick_too : ℕ) (before before_too : List ℕ) → here ≡ here_too → tick ≡ tick_too → before ≡ before_too
    → (if own then (if here then tick ∷ before else []) else before) ≡ (if own then (if here_too then tick_too ∷ before_too else []) else before_too)
run_on own here here_too tick tick_too before before_too p q r =
    ap (λ (b : Bool). if own then (if b then tick ∷ before else []) else before) p
    ∙ ap (λ n. if own then (if here_too then n ∷ before else []) else before) q
    ∙ ap (λ (xs : List ℕ). if own then (if here_too then tick_too ∷ xs else []) else xs) r

pub confirmed_same : (output : ℕ) (m : List Moment) → confirmations output (without_failures m) ≡ confirmations output m
confirmed_same output [] = refl
confirmed_same output (Began ∷ before) = confirmed_same output before
confirmed_same output (Happened event ∷ before) =
    ap (λ n. and_confirmation output n event (confirmations output (without_failures before))) (tick_same before)
    ∙ ap (and_confirmation output (tick_of before) event) (confirmed_same output before)
confirmed_same output (Turned panel task ∷ before) = confirmed_same output before
confirmed_same output (Kept failed ∷ before) = confirmed_same output before

-- the panel of an output is one of the site, or none
output_panel : (site : Site) → IsValid site → (output : ℕ) → panel_of_output site output ≤ site.panels
output_panel site valid output = by (slice_get site.outputs output) refl
  where
    by : (plan : Option Output) → slice_get site.outputs output ≡ plan → panel_of_plan plan ≤ site.panels
    by None is = omega arith
    by (Some o) is = (output_at site valid output o is).panel.1

module _ (site : Site) (one other : Account) (limit : ℕ) (alike : AreAlikeAccounts site one other limit) (valid : IsValid site)
    (facts others : ℕ → List Moment → Facts)
    (same : (panel : ℕ) (m : List Moment) → tick_of m ≤ limit → facts panel (without_failures m) ≡ others panel m) where
  requested_alike : (output : ℕ) (m : List Moment) → tick_of m ≤ limit
      → is_requested site facts output (without_failures m) ≡ is_requested site others output m
  requested_alike output m by =
      made_alike limit false (panel_of_output site output) Effect (λ before. is_true_over site output (facts (panel_of_output site output) before))
      (λ before. is_true_over site output (others (panel_of_output site output) before))
      (λ before l. ap (is_true_over site output) (same (panel_of_output site output) before l)) m by

  by_hand_alike : (output : ℕ) (m : List Moment) → tick_of m ≤ limit
      → is_requested_by_hand site facts output (without_failures m) ≡ is_requested_by_hand site others output m
  by_hand_alike output m by =
      made_alike limit false (panel_of_output site output) Effect
      (λ before. is_true_over site output (hand_facts (facts (panel_of_output site output) before)))
      (λ before. is_true_over site output (hand_facts (others (panel_of_output site output) before)))
      (λ before l. ap (λ (f : Facts). is_true_over site output (hand_facts f)) (same (panel_of_output site output) before l)) m by

  run_alike : (output : ℕ) (m : List Moment) → tick_of m ≤ limit → asked_run site facts output (without_failures m) ≡ asked_run site others output m
  run_alike output [] by = refl
  run_alike output (Began ∷ before) by = run_alike output before (omega (arith, by))
  run_alike output (Happened event ∷ before) by = run_alike output before by
  run_alike output (Turned panel Drive ∷ before) by =
      run_on (panel == panel_of_output site output) _ _ _ _ _ _ (requested_alike output before by) (tick_same before) (run_alike output before by)
  run_alike output (Turned panel task ∷ before) by = run_alike output before by
  run_alike output (Kept failed ∷ before) by = run_alike output before by

  effect_alike : (panel : ℕ) (m : List Moment) → tick_of m ≤ limit
      → released_at_effect site facts panel (without_failures m) ≡ released_at_effect site others panel m
  effect_alike panel m by =
      made_alike limit (λ zone. false) panel Effect (λ before. (facts panel before).released) (λ before. (others panel before).released)
      (λ before l. ap (λ (f : Facts). f.released) (same panel before l)) m by

  drive_alike : (panel : ℕ) (m : List Moment) → tick_of m ≤ limit
      → released_at_drive site facts panel (without_failures m) ≡ released_at_drive site others panel m
  drive_alike panel m by =
      made_alike limit (λ zone. false) panel Drive (released_at_effect site facts panel) (released_at_effect site others panel)
      (effect_alike panel) m by

  stays_alike : (panel since : ℕ) (zones : ℕ → Bool) (m : List Moment) → tick_of m ≤ limit
      → stays_within site facts panel since zones (without_failures m) ≡ stays_within site others panel since zones m
  stays_alike panel since zones [] by = refl
  stays_alike panel since zones (Began ∷ before) by = stays_alike panel since zones before (omega (arith, by))
  stays_alike panel since zones (Happened event ∷ before) by = stays_alike panel since zones before by
  stays_alike panel since zones (Turned turned Drive ∷ before) by =
      ap (λ n. if (turned == panel) && nat_lt since n then is_within site (released_at_effect site facts panel (without_failures before)) zones
      && stays_within site facts panel since zones (without_failures before) else stays_within site facts panel since zones (without_failures before)) (tick_same before)
      ∙ ap (λ (released : ℕ → Bool). if (turned == panel) && nat_lt since (tick_of before) then is_within site released zones
      && stays_within site facts panel since zones (without_failures before) else stays_within site facts panel since zones (without_failures before))
      (effect_alike panel before by)
      ∙ ap (λ (b : Bool). if (turned == panel) && nat_lt since (tick_of before) then is_within site (released_at_effect site others panel before) zones
      && b else b) (stays_alike panel since zones before by)
  stays_alike panel since zones (Turned turned task ∷ before) by = stays_alike panel since zones before by
  stays_alike panel since zones (Kept failed ∷ before) by = stays_alike panel since zones before by

  holds_alike : (panel : ℕ) (m : List Moment) (tick : Option ℕ) → tick_of m ≤ limit
      → silence_holds site facts panel (without_failures m) tick ≡ silence_holds site others panel m tick
  holds_alike panel m None by = refl
  holds_alike panel m (Some tick) by =
      let rises = tick_rises (up_to tick m) m (up_to_is_past tick m) in
      ap (λ (past : List Moment). stays_within site facts panel tick (released_at_drive site facts panel past) (without_failures m)) (up_to_same tick m)
      ∙ ap (λ (zones : ℕ → Bool). stays_within site facts panel tick zones (without_failures m)) (drive_alike panel (up_to tick m) (omega (arith, rises, by)))
      ∙ stays_alike panel tick (released_at_drive site others panel (up_to tick m)) m by

  quiet_alike : (panel : ℕ) (m : List Moment) → tick_of m ≤ limit
      → is_quiet site facts one.kept one.done panel (without_failures m) ≡ is_quiet site others other.kept other.done panel m
  quiet_alike panel m by =
      ap (λ n. silence_holds site facts panel (without_failures m) (silence_before panel n one.done)) (tick_same m)
      ∙ ap (silence_holds site facts panel (without_failures m)) (alike.silences panel (tick_of m) by)
      ∙ holds_alike panel m (silence_before panel (tick_of m) other.done) by

  over_alike : (panel delay tick : ℕ) (run : List ℕ) → tick ≤ limit
      → is_over site facts one.kept one.done panel delay tick run ≡ is_over site others other.kept other.done panel delay tick run
  over_alike panel delay tick run by =
      any_same _ _ (λ first. ap (λ (b : Bool). nat_le (first + delay) tick || b) (alike.overrides panel first tick by)) run

  acts_alike : (output : ℕ) (before : List Moment) → tick_of before ≤ limit
      → may_act site facts one.kept one.done output (without_failures before) ≡ may_act site others other.kept other.done output before
  acts_alike output before by =
      acts_same _ _ _ _ _ _ (delay_of site output == 0) (by_hand_alike output before by)
      (ap (λ n. in_force site one.kept (DelaysOff (panel_of_output site output)) n one.done) (tick_same before)
      ∙ alike.delays_off (panel_of_output site output) (tick_of before) (output_panel site valid output) by)
      (ap (λ n. is_over site facts one.kept one.done (panel_of_output site output) (delay_of site output) n
      (asked_run site facts output (Turned (panel_of_output site output) Drive ∷ without_failures before))) (tick_same before)
      ∙ ap (is_over site facts one.kept one.done (panel_of_output site output) (delay_of site output) (tick_of before))
      (run_alike output (Turned (panel_of_output site output) Drive ∷ before) by)
      ∙ over_alike (panel_of_output site output) (delay_of site output) (tick_of before)
      (asked_run site others output (Turned (panel_of_output site output) Drive ∷ before)) by)

  goes_alike : (output : ℕ) (before : List Moment) → tick_of before ≤ limit
      → goes_on site facts one.kept one.done output (without_failures before) ≡ goes_on site others other.kept other.done output before
  goes_alike output before by =
      goes_same _ _ _ _ _ _ _ _ (requested_alike output before by)
      (ap (λ n. in_force site one.kept (OutputOff output) n one.done) (tick_same before) ∙ alike.outputs_off output (tick_of before) by)
      (ap (λ (b : Bool). is_sounder site output && b) (quiet_alike (panel_of_output site output) (Turned (panel_of_output site output) Drive ∷ before) by))
      (acts_alike output before by)

  pub on_alike : (output : ℕ) (m : List Moment) → tick_of m ≤ limit
      → is_on site facts one.kept one.done output (without_failures m) ≡ is_on site others other.kept other.done output m
  on_alike output m by =
      made_alike limit false (panel_of_output site output) Drive (goes_on site facts one.kept one.done output)
      (goes_on site others other.kept other.done output) (goes_alike output) m by

  on_run_alike : (output : ℕ) (m : List Moment) → tick_of m ≤ limit
      → on_run site facts one.kept one.done output (without_failures m) ≡ on_run site others other.kept other.done output m
  on_run_alike output [] by = refl
  on_run_alike output (Began ∷ before) by = on_run_alike output before (omega (arith, by))
  on_run_alike output (Happened event ∷ before) by = on_run_alike output before by
  on_run_alike output (Turned panel Drive ∷ before) by =
      run_on (panel == panel_of_output site output) _ _ _ _ _ _ (goes_alike output before by) (tick_same before) (on_run_alike output before by)
  on_run_alike output (Turned panel task ∷ before) by = on_run_alike output before by
  on_run_alike output (Kept failed ∷ before) by = on_run_alike output before by

  confirmed_alike : (output : ℕ) (m : List Moment) → tick_of m ≤ limit
      → is_confirmed_out site facts one.kept one.done output (without_failures m) ≡ is_confirmed_out site others other.kept other.done output m
  confirmed_alike output m by =
      ap (λ (run : List ℕ). is_confirmed_in run (confirmations output (without_failures m))) (on_run_alike output m by)
      ∙ ap (is_confirmed_in (on_run site others other.kept other.done output m)) (confirmed_same output m)

  pub unconfirmed_alike : (output : ℕ) (m : List Moment) → tick_of m ≤ limit
      → is_unconfirmed site facts one.kept one.done output (without_failures m) ≡ is_unconfirmed site others other.kept other.done output m
  unconfirmed_alike output m by =
      ap (λ (run : List ℕ). on_output (λ o. is_confirming o.kind) (slice_get site.outputs output)
      && (has_lasted (routing_of site.format) run && not (is_confirmed_out site facts one.kept one.done output (without_failures m)))) (on_run_alike output m by)
      ∙ ap (λ (b : Bool). on_output (λ o. is_confirming o.kind) (slice_get site.outputs output)
      && (has_lasted (routing_of site.format) (on_run site others other.kept other.done output m) && not b)) (confirmed_alike output m by)
