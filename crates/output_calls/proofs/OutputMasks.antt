-- Masks of a panel's outputs by their numbers.
use Rattle.std.proofs.Common.{◌≡◌, ◌≤◌, ◌<◌, ◌+◌, ◌-◌, ◌==◌, ◌&&◌, not, ℕ, Bool, true, false, List, [], ◌∷◌}
use Rattle.std.proofs.Common.{Option, Some, None, slice_get, if◌then◌else◌, refl, sym, ◌∙◌, ap, subst, arith}
use Rattle.tick_units.specs.declared.task.Task.TheVariants.{Poll, Decide, Supply, Desk, Hold, Link, Effect, Drive, Keep}
use Rattle.site_types.specs.declared.operation.Operation.{Operation}
use Rattle.site_types.specs.declared.operation.Operation.TheVariants.{Mute, Override, Silence, Resound, Reset, Cancel}
use Rattle.site_types.specs.declared.operation.Operation.TheVariants.{Disable, Enable, Test, Untest, Delays, Clear}
use Rattle.site_types.specs.declared.output.Output.{Output}
use Rattle.site_types.specs.declared.site.Site.{Site}
use Rattle.site_types.specs.Bits.{has_bit, mask_of}
use Rattle.site_types.specs.Done.{Done}
use Rattle.site_types.specs.Profile.{routing_of}
use Rattle.site_types.proofs.Masks.{has_bit-mask, mask_same}
use Rattle.output_delays.specs.Overrides.{AllUpTo}
use Rattle.output_delays.specs.Runs.{Call, Turned as DelayTurn, is_through, overrides_of}
use Rattle.routing_outputs.specs.declared.routing_state.RoutingState.TheVariants.{Idle}
use Rattle.routing_outputs.specs.Confirmations.{is_confirming_output, run_of, state_in, state_of, is_confirmed}
use Rattle.routing_outputs.specs.Confirmations.{is_unconfirmed as is_unconfirmed_state}
use Rattle.panel_rules.specs.Moments.{Began, Happened, Turned, Kept, tick_of}
use Rattle.panel_rules.specs.Outputs.{on_place, output_numbered, outputs_where, is_requested, may_act, is_confirmed_out}
use Rattle.panel_rules.specs.Faults.{is_unconfirmed}
use Rattle.panel_rules.proofs.AnswersTell.{position_got}
use Rattle.panel_rules.proofs.Bools.{parts}
use Rattle.panel_rules.proofs.Counting.{each_to}
use Rattle.panel_laws.proofs.AnswerLaws.{eq_is}
use Rattle.output_calls.specs.DelayCalls.{and_delaying, delay_calls, requests_at}
use Rattle.output_calls.specs.DoneCalls.{and_done_in}
use Rattle.output_calls.specs.MaskLaws.{ConfirmedMaskByCalls, UnconfirmedMaskByCalls, ThroughMaskByCalls, OverridesAreOver}
use Rattle.output_calls.specs.RoutingCalls.{routing_calls}
use Rattle.output_calls.proofs.Confirming.{confirmed, unconfirmed}
use Rattle.output_calls.proofs.Delaying.{through}
use Rattle.output_calls.proofs.Numbers.{none_found}

-- a mask by numbers is one by places, where the tests agree and no number without an output passes
masks_alike : (site : Site) (panel : ℕ) (by_number test : ℕ → Bool)
    → ((output : ℕ) (plan : Output) → slice_get site.outputs output ≡ Some plan → plan.panel ≡ panel → by_number plan.number ≡ test output)
    → ((k : ℕ) → k < 32 → output_numbered site panel (k + 1) ≡ None → by_number (k + 1) ≡ false)
    → mask_of 32 (λ k. by_number (k + 1)) ≡ outputs_where site panel test
unfolding outputs_where
masks_alike site panel by_number test agree none =
    mask_same 32 (λ k. by_number (k + 1)) (λ k. on_place test (output_numbered site panel (k + 1)))
    (λ k small. at k small (output_numbered site panel (k + 1)) refl)
  where
    at : (k : ℕ) → k < 32 → (o : Option ℕ) → output_numbered site panel (k + 1) ≡ o → by_number (k + 1) ≡ on_place test o
    at k small None is = none k small is
    at k small (Some output) is =
        let found = position_got (λ (o : Output). (o.panel == panel) && (o.number == k + 1)) site.outputs output is in
        let same = parts (found.item.panel == panel) (found.item.number == k + 1) found.passes in
        ap by_number (sym (eq_is found.item.number (k + 1) same.1))
        ∙ agree output found.item found.is (eq_is found.item.panel panel same.0)

pub confirmed_mask : ConfirmedMaskByCalls
confirmed_mask site facts kept done limit panel m valid run events =
    masks_alike site panel (λ number. is_confirmed (state_of site panel limit number (routing_calls site facts kept done panel m)))
    (λ output. is_confirmed_out site facts kept done output m)
    (λ output plan is same.
    subst (λ p. is_confirmed (state_of site p limit plan.number (routing_calls site facts kept done p m)) ≡ is_confirmed_out site facts kept done output m)
    same (confirmed site facts kept done limit output plan m valid is run events))
    (λ k small none.
    ap (λ (o : Option Output). is_confirmed (if is_confirming_output o then state_in limit (k + 1) (run_of (k + 1) (routing_calls site facts kept done panel m)) else Idle))
    (none_found site valid panel (k + 1) none))

pub unconfirmed_mask : UnconfirmedMaskByCalls
unconfirmed_mask site facts kept done panel m valid run =
    masks_alike site panel
    (λ number. is_unconfirmed_state (state_of site panel (routing_of site.format) number (routing_calls site facts kept done panel m)))
    (λ output. is_unconfirmed site facts kept done output m)
    (λ output plan is same.
    subst (λ p. is_unconfirmed_state (state_of site p (routing_of site.format) plan.number (routing_calls site facts kept done p m))
    ≡ is_unconfirmed site facts kept done output m) same (unconfirmed site facts kept done output plan m valid is run))
    (λ k small none.
    ap (λ (o : Option Output). is_unconfirmed_state (if is_confirming_output o
    then state_in (routing_of site.format) (k + 1) (run_of (k + 1) (routing_calls site facts kept done panel m)) else Idle))
    (none_found site valid panel (k + 1) none))

none_asked : (site : Site) (panel : ℕ) (test : ℕ → Bool) (k : ℕ) → k < 32 → output_numbered site panel (k + 1) ≡ None
    → has_bit (outputs_where site panel test) (k + 1 - 1) ≡ false
unfolding outputs_where
none_asked site panel test k small none =
    let same : k + 1 - 1 ≡ k = omega arith in
    ap (has_bit (mask_of 32 (λ j. on_place test (output_numbered site panel (j + 1))))) same
    ∙ has_bit-mask 32 (λ j. on_place test (output_numbered site panel (j + 1))) k small
    ∙ ap (on_place test) none

fails_first : (a b : Bool) → a ≡ false → (a && b) ≡ false
fails_first true b e = cc
fails_first false b e = refl

pub through_mask : ThroughMaskByCalls
through_mask site facts kept done panel before valid falls =
    masks_alike site panel
    (λ number. is_through site panel (not (has_bit kept.delays_off (panel - 1))) (delay_calls site facts done panel before) (tick_of before)
    (requests_at site facts panel before) number)
    (λ output. is_requested site facts output before && may_act site facts kept done output before)
    (λ output plan is same.
    subst (λ p. is_through site p (not (has_bit kept.delays_off (p - 1))) (delay_calls site facts done p before) (tick_of before)
    (requests_at site facts p before) plan.number ≡ (is_requested site facts output before && may_act site facts kept done output before)) same
    (through site facts kept done output plan before valid is falls))
    (λ k small none. fails_first _ _ (none_asked site panel (λ output. is_requested site facts output before) k small none))

-- ---- overrides

-- what was done in a tick adds overrides of that tick alone
done_over : (panel tick : ℕ) (ds : List Done) (calls : List Call) → AllUpTo tick (overrides_of calls)
    → AllUpTo tick (overrides_of (and_done_in (and_delaying tick) panel tick ds calls))
done_over panel tick [] calls h = h
done_over panel tick (d ∷ ds) calls h =
    go ((d.panel == panel) && (d.tick == tick)) (and_done_in (and_delaying tick) panel tick ds calls) (done_over panel tick ds calls h)
  where
    one : (operation : Operation) (calls : List Call) → AllUpTo tick (overrides_of calls) → AllUpTo tick (overrides_of (and_delaying tick operation calls))
    one Override calls h = (omega arith, h)
    one Mute calls h = h
    one Silence calls h = h
    one Resound calls h = h
    one Reset calls h = h
    one (Cancel zone) calls h = h
    one (Disable item) calls h = h
    one (Enable item) calls h = h
    one (Test zone) calls h = h
    one (Untest zone) calls h = h
    one (Delays active) calls h = h
    one Clear calls h = h

    go : (b : Bool) (calls : List Call) → AllUpTo tick (overrides_of calls)
        → AllUpTo tick (overrides_of (if b then and_delaying tick d.operation calls else calls))
    go true calls h = one d.operation calls h
    go false calls h = h

pub overrides_over : OverridesAreOver
overrides_over site facts done panel [] = tt
overrides_over site facts done panel (Began ∷ before) =
    each_to (λ t. t ≤ tick_of before) (λ t. t ≤ tick_of before + 1)
    (overrides_of (and_done_in (and_delaying (tick_of before)) panel (tick_of before) done (delay_calls site facts done panel before)))
    (λ t less. omega (arith, less))
    (done_over panel (tick_of before) done (delay_calls site facts done panel before) (overrides_over site facts done panel before))
overrides_over site facts done panel (Happened event ∷ before) = overrides_over site facts done panel before
overrides_over site facts done panel (Turned other Drive ∷ before) = go (other == panel) (overrides_over site facts done panel before)
  where
    go : (b : Bool) → AllUpTo (tick_of before) (overrides_of (delay_calls site facts done panel before))
        → AllUpTo (tick_of before)
        (overrides_of (if b then DelayTurn (tick_of before) (requests_at site facts panel before) ∷ delay_calls site facts done panel before
        else delay_calls site facts done panel before))
    go true h = h
    go false h = h
overrides_over site facts done panel (Turned other Poll ∷ before) = overrides_over site facts done panel before
overrides_over site facts done panel (Turned other Decide ∷ before) = overrides_over site facts done panel before
overrides_over site facts done panel (Turned other Supply ∷ before) = overrides_over site facts done panel before
overrides_over site facts done panel (Turned other Desk ∷ before) = overrides_over site facts done panel before
overrides_over site facts done panel (Turned other Hold ∷ before) = overrides_over site facts done panel before
overrides_over site facts done panel (Turned other Link ∷ before) = overrides_over site facts done panel before
overrides_over site facts done panel (Turned other Effect ∷ before) = overrides_over site facts done panel before
overrides_over site facts done panel (Turned other Keep ∷ before) = overrides_over site facts done panel before
overrides_over site facts done panel (Kept failed ∷ before) = overrides_over site facts done panel before
