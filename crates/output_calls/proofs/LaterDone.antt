-- Operations done in a tick or later change nothing of what a run has told up to it.
use Rattle.std.proofs.Common.{◌≡◌, ◌≤◌, ◌<◌, ◌+◌, ◌==◌, ◌||◌, ◌++◌, ℕ, Bool, true, false, List, [], ◌∷◌, inl, inr, if◌then◌else◌, refl, ◌∙◌, ap, arith}
use Rattle.std.specs.Prelude.{nat_le}
use Rattle.std.specs.List.{list_any}
use Rattle.std.proofs.Math.Path.{fun_ext}
use Rattle.std.proofs.lemmas.Bool.Decides.{eqb_tells}
use Rattle.tick_units.specs.declared.task.Task.TheVariants.{Poll, Decide, Supply, Desk, Hold, Link, Effect, Drive, Keep}
use Rattle.site_types.specs.declared.operation.Operation.{Operation}
use Rattle.site_types.specs.declared.retained.Retained.{Retained}
use Rattle.site_types.specs.declared.site.Site.{Site}
use Rattle.site_types.specs.Done.{Done, DelaysOff, OutputOff, override_done_in}
use Rattle.site_types.proofs.Done.{in_force-later, override-later, silence-later}
use Rattle.site_types.proofs.LaterDone.{AreFrom}
use Rattle.routing_outputs.specs.Confirmations.{Call, Turned as RoutingTurn}
use Rattle.output_delays.specs.Runs.{Call as DelayCall, Turned as DelayTurn}
use Rattle.sounder_control.specs.Quiet.{Call as SilenceCall, Drove}
use Rattle.panel_rules.specs.Moments.{Moment, Began, Happened, Turned, Kept, tick_of, is_turn}
use Rattle.panel_rules.specs.Markers.{Facts}
use Rattle.panel_rules.specs.Outputs.{asked_run, delay_of, goes_on, is_on, outputs_where, panel_of_output, released_at_effect}
use Rattle.output_calls.specs.DelayCalls.{and_delaying, delay_calls, requests_at}
use Rattle.output_calls.specs.DoneCalls.{and_done_in}
use Rattle.output_calls.specs.RoutingCalls.{and_confirmed, routing_calls}
use Rattle.output_calls.specs.SilenceCalls.{and_silencing, silence_calls, zone_masks}
use Rattle.output_calls.proofs.DoneNow.{now_not}

from_earlier : (x y : ℕ) (ds : List Done) → x ≤ y → AreFrom y ds → AreFrom x ds
from_earlier x y [] less from = tt
from_earlier x y (d ∷ ds) less from = (let by = from.0 in omega (arith, less, by), from_earlier x y ds less from.1)

done_later : {C : Type 0} (adds : Operation → List C → List C) (panel tick x : ℕ) (new old : List Done) (calls : List C) → tick < x
    → AreFrom x new → and_done_in adds panel tick (new ++ old) calls ≡ and_done_in adds panel tick old calls
done_later adds panel tick x [] old calls less from = refl
done_later adds panel tick x (d ∷ new) old calls less from =
    now_not adds panel tick d (new ++ old) calls apart ∙ done_later adds panel tick x new old calls less from.1
  where
    apart : (d.tick == tick) ≡ false
    apart = elim (eqb_tells d.tick tick) [ inl t ↦ (let is = t.1 in let by = from.0 in absurd (omega (arith, is, by, less))) | inr t ↦ t.0 ]

any_same : (f g : ℕ → Bool) → ((a : ℕ) → f a ≡ g a) → (xs : List ℕ) → list_any f xs ≡ list_any g xs
any_same f g same [] = refl
any_same f g same (x ∷ xs) = let here = same x in let rest = any_same f g same xs in rw (here, rest) refl

module _ (site : Site) (facts : ℕ → List Moment → Facts) (new old : List Done) (x : ℕ) (from : AreFrom x new) (panel : ℕ) where
  pub delays_later : (m : List Moment) → tick_of m ≤ x → delay_calls site facts (new ++ old) panel m ≡ delay_calls site facts old panel m
  delays_later [] by = refl
  delays_later (Began ∷ before) by =
      done_later (and_delaying (tick_of before)) panel (tick_of before) x new old (delay_calls site facts (new ++ old) panel before) (omega (arith, by)) from
      ∙ ap (and_done_in (and_delaying (tick_of before)) panel (tick_of before) old) (delays_later before (omega (arith, by)))
  delays_later (Happened event ∷ before) by = delays_later before by
  delays_later (Turned other Drive ∷ before) by =
      ap (λ (calls : List DelayCall). if other == panel then DelayTurn (tick_of before) (requests_at site facts panel before) ∷ calls else calls)
      (delays_later before by)
  delays_later (Turned other Poll ∷ before) by = delays_later before by
  delays_later (Turned other Decide ∷ before) by = delays_later before by
  delays_later (Turned other Supply ∷ before) by = delays_later before by
  delays_later (Turned other Desk ∷ before) by = delays_later before by
  delays_later (Turned other Hold ∷ before) by = delays_later before by
  delays_later (Turned other Link ∷ before) by = delays_later before by
  delays_later (Turned other Effect ∷ before) by = delays_later before by
  delays_later (Turned other Keep ∷ before) by = delays_later before by
  delays_later (Kept failed ∷ before) by = delays_later before by

  pub silence_later : (m : List Moment) → tick_of m ≤ x → silence_calls site facts (new ++ old) panel m ≡ silence_calls site facts old panel m
  silence_later [] by = refl
  silence_later (Began ∷ before) by =
      done_later and_silencing panel (tick_of before) x new old (silence_calls site facts (new ++ old) panel before) (omega (arith, by)) from
      ∙ ap (and_done_in and_silencing panel (tick_of before) old) (silence_later before (omega (arith, by)))
  silence_later (Happened event ∷ before) by = silence_later before by
  silence_later (Turned other Drive ∷ before) by =
      ap (λ (calls : List SilenceCall). if other == panel then Drove (zone_masks site (released_at_effect site facts panel before)) ∷ calls else calls)
      (silence_later before by)
  silence_later (Turned other Poll ∷ before) by = silence_later before by
  silence_later (Turned other Decide ∷ before) by = silence_later before by
  silence_later (Turned other Supply ∷ before) by = silence_later before by
  silence_later (Turned other Desk ∷ before) by = silence_later before by
  silence_later (Turned other Hold ∷ before) by = silence_later before by
  silence_later (Turned other Link ∷ before) by = silence_later before by
  silence_later (Turned other Effect ∷ before) by = silence_later before by
  silence_later (Turned other Keep ∷ before) by = silence_later before by
  silence_later (Kept failed ∷ before) by = silence_later before by

module _ (site : Site) (facts : ℕ → List Moment → Facts) (kept : Retained) (new old : List Done) (x : ℕ) (from : AreFrom x new) where
  pub goes_later : (output : ℕ) (before : List Moment) → tick_of before ≤ x
      → goes_on site facts kept (new ++ old) output before ≡ goes_on site facts kept old output before
  goes_later output before by =
      let panel = panel_of_output site output in
      let now = tick_of before in
      let after : AreFrom now new = from_earlier now x new by from in
      let off = in_force-later site kept (OutputOff output) now new old after in
      let silent = silence-later panel now new old after in
      let delays = in_force-later site kept (DelaysOff panel) now new old after in
      let over =
      any_same (λ first. nat_le (first + delay_of site output) now || override_done_in panel first now (new ++ old))
      (λ first. nat_le (first + delay_of site output) now || override_done_in panel first now old)
      (λ first. ap (λ b. nat_le (first + delay_of site output) now || b) (override-later panel first now new old after))
      (asked_run site facts output (Turned panel Drive ∷ before)) in
      rw (off, silent, delays, over) refl

  on_later : (output : ℕ) (m : List Moment) → tick_of m ≤ x → is_on site facts kept (new ++ old) output m ≡ is_on site facts kept old output m
  on_later output [] by = refl
  on_later output (Began ∷ before) by = on_later output before (omega (arith, by))
  on_later output (Happened event ∷ before) by = on_later output before by
  on_later output (Turned other task ∷ before) by =
      go (is_turn (panel_of_output site output) Drive other task) (on_later output before by)
    where
      go : (b : Bool) → is_on site facts kept (new ++ old) output before ≡ is_on site facts kept old output before
          → (if b then goes_on site facts kept (new ++ old) output before else is_on site facts kept (new ++ old) output before)
          ≡ (if b then goes_on site facts kept old output before else is_on site facts kept old output before)
      go true h = goes_later output before by
      go false h = h
  on_later output (Kept failed ∷ before) by = on_later output before by

  pub routing_later : (panel : ℕ) (m : List Moment) → tick_of m ≤ x
      → routing_calls site facts kept (new ++ old) panel m ≡ routing_calls site facts kept old panel m
  routing_later panel [] by = refl
  routing_later panel (Began ∷ before) by = routing_later panel before (omega (arith, by))
  routing_later panel (Happened event ∷ before) by = ap (and_confirmed site panel event) (routing_later panel before by)
  routing_later panel (Turned other Drive ∷ before) by =
      ap (λ (calls : List Call). if other == panel then RoutingTurn (tick_of before)
      (outputs_where site panel (λ output. is_on site facts kept (new ++ old) output (Turned panel Drive ∷ before))) ∷ calls else calls)
      (routing_later panel before by)
      ∙ ap (λ (test : ℕ → Bool). if other == panel then RoutingTurn (tick_of before) (outputs_where site panel test)
      ∷ routing_calls site facts kept old panel before else routing_calls site facts kept old panel before)
      (fun_ext (λ output. on_later output (Turned panel Drive ∷ before) by))
  routing_later panel (Turned other Poll ∷ before) by = routing_later panel before by
  routing_later panel (Turned other Decide ∷ before) by = routing_later panel before by
  routing_later panel (Turned other Supply ∷ before) by = routing_later panel before by
  routing_later panel (Turned other Desk ∷ before) by = routing_later panel before by
  routing_later panel (Turned other Hold ∷ before) by = routing_later panel before by
  routing_later panel (Turned other Link ∷ before) by = routing_later panel before by
  routing_later panel (Turned other Effect ∷ before) by = routing_later panel before by
  routing_later panel (Turned other Keep ∷ before) by = routing_later panel before by
  routing_later panel (Kept failed ∷ before) by = routing_later panel before by
