-- Which outputs are on, and what follows of it, goes by which went on at the turns of Drive made by then: where these agree on the
-- histories that pass a test, and each earlier part of one passes it too, all of it agrees.
use Rattle.std.proofs.Common.{◌≡◌, ℕ, ◌==◌, ◌&&◌, not, List, [], ◌∷◌, Bool, false, slice_get, if◌then◌else◌, refl, ◌∙◌, ap}
use Rattle.std.proofs.Math.Path.{fun_ext}
use Rattle.tick_units.specs.declared.task.Task.TheVariants.{Drive}
use Rattle.site_types.specs.declared.retained.Retained.{Retained}
use Rattle.site_types.specs.declared.site.Site.{Site}
use Rattle.site_types.specs.Done.{Done}
use Rattle.site_types.specs.Events.{is_confirming}
use Rattle.site_types.specs.Profile.{routing_of}
use Rattle.routing_outputs.specs.Confirmations.{Call, Turned as RoutingTurn}
use Rattle.panel_rules.specs.Moments.{Moment, Began, Happened, Turned, Kept, tick_of}
use Rattle.panel_rules.specs.Markers.{Facts}
use Rattle.panel_rules.specs.Outputs.{on_output, outputs_where, panel_of_output, goes_on, is_on, on_run}
use Rattle.panel_rules.specs.Outputs.{confirmations, is_confirmed_in, has_lasted, is_confirmed_out}
use Rattle.panel_rules.specs.Faults.{is_unconfirmed, links_down, outside_at, outside_with, silent_panels}
use Rattle.output_calls.specs.RoutingCalls.{and_confirmed, routing_calls}
use Rattle.later_operations.proofs.Earlier.{Earlier, then_earlier, made_stays}

module _ (Q : List Moment → Type 0) (tail : (moment : Moment) (before : List Moment) → Q (moment ∷ before) → Q before)
    (site : Site) (facts others : ℕ → List Moment → Facts) (kept : Retained) (more less : List Done)
    (same : (output : ℕ) (b : List Moment) → Q b → goes_on site facts kept more output b ≡ goes_on site others kept less output b) where
  pub on_by_outputs : (output : ℕ) (m : List Moment) → Earlier Q m → is_on site facts kept more output m ≡ is_on site others kept less output m
  on_by_outputs output m q =
      made_stays Q tail false (panel_of_output site output) Drive (goes_on site facts kept more output) (goes_on site others kept less output)
      (same output) m q

  pub on_run_by_outputs : (output : ℕ) (m : List Moment) → Earlier Q m → on_run site facts kept more output m ≡ on_run site others kept less output m
  on_run_by_outputs output [] q = refl
  on_run_by_outputs output (Began ∷ before) q = on_run_by_outputs output before (then_earlier Q tail before q)
  on_run_by_outputs output (Happened event ∷ before) q = on_run_by_outputs output before (then_earlier Q tail before q)
  on_run_by_outputs output (Turned panel Drive ∷ before) q =
      rw (same output before q, on_run_by_outputs output before (then_earlier Q tail before q)) refl
  on_run_by_outputs output (Turned panel task ∷ before) q = on_run_by_outputs output before (then_earlier Q tail before q)
  on_run_by_outputs output (Kept failed ∷ before) q = on_run_by_outputs output before (then_earlier Q tail before q)

  pub confirmed_by_outputs : (output : ℕ) (m : List Moment) → Earlier Q m
      → is_confirmed_out site facts kept more output m ≡ is_confirmed_out site others kept less output m
  confirmed_by_outputs output m q = ap (λ run. is_confirmed_in run (confirmations output m)) (on_run_by_outputs output m q)

  pub unconfirmed_by_outputs : (output : ℕ) (m : List Moment) → Earlier Q m
      → is_unconfirmed site facts kept more output m ≡ is_unconfirmed site others kept less output m
  unconfirmed_by_outputs output m q =
      ap (λ run. on_output (λ o. is_confirming o.kind) (slice_get site.outputs output)
      && (has_lasted (routing_of site.format) run && not (is_confirmed_in run (confirmations output m)))) (on_run_by_outputs output m q)

  pub outside_by_outputs : (stamps : ℕ → ℕ) (up : ℕ → Bool) (panel : ℕ) (m : List Moment) → Earlier Q m
      → outside_at site facts kept more stamps up panel m ≡ outside_at site others kept less stamps up panel m
  outside_by_outputs stamps up panel m q =
      ap (λ (test : ℕ → Bool). outside_with site panel m (silent_panels site stamps (tick_of m)) (links_down site panel up)
      (outputs_where site panel test)) (fun_ext (λ output. unconfirmed_by_outputs output m q))

  pub routing_by_outputs : (panel : ℕ) (m : List Moment) → Earlier Q m
      → routing_calls site facts kept more panel m ≡ routing_calls site others kept less panel m
  routing_by_outputs panel [] q = refl
  routing_by_outputs panel (Began ∷ before) q = routing_by_outputs panel before (then_earlier Q tail before q)
  routing_by_outputs panel (Happened event ∷ before) q =
      ap (and_confirmed site panel event) (routing_by_outputs panel before (then_earlier Q tail before q))
  routing_by_outputs panel (Turned other Drive ∷ before) q =
      ap (λ (calls : List Call). if other == panel then RoutingTurn (tick_of before)
      (outputs_where site panel (λ output. is_on site facts kept more output (Turned panel Drive ∷ before))) ∷ calls else calls)
      (routing_by_outputs panel before (then_earlier Q tail before q))
      ∙ ap (λ (test : ℕ → Bool). if other == panel then RoutingTurn (tick_of before) (outputs_where site panel test)
      ∷ routing_calls site others kept less panel before else routing_calls site others kept less panel before)
      (fun_ext (λ output. on_by_outputs output (Turned panel Drive ∷ before) q))
  routing_by_outputs panel (Turned other task ∷ before) q = routing_by_outputs panel before (then_earlier Q tail before q)
  routing_by_outputs panel (Kept failed ∷ before) q = routing_by_outputs panel before (then_earlier Q tail before q)
