-- What a turn of Drive tells the parts of a panel's outputs, which outputs are then on, and what a confirmation tells.
use Rattle.std.proofs.Common.{◌≡◌, ◌<◌, ◌+◌, ◌-◌, ◌^◌, ◌&&◌, ℕ, Bool, true, false, List, ◌∷◌, Option, Some, None, slice_get}
use Rattle.std.proofs.Common.{if◌then◌else◌, refl, sym, ◌∙◌, ap, subst, arith}
use Rattle.std.specs.Prelude.{not}
use Rattle.tick_units.specs.declared.task.Task.TheVariants.{Drive as DriveTask}
use Rattle.site_types.specs.declared.event.Event.TheVariants.{Confirmed as ConfirmedEvent}
use Rattle.site_types.specs.declared.output.Output.{Output}
use Rattle.site_types.specs.declared.requests.Requests.{Requests}
use Rattle.site_types.specs.declared.retained.Retained.{Retained}
use Rattle.site_types.specs.declared.site.Site.{Site}
use Rattle.site_types.specs.Bits.{has_bit, mask_of}
use Rattle.site_types.specs.Done.{Done, OutputOff, in_force}
use Rattle.site_types.specs.Valid.{IsValid}
use Rattle.site_types.proofs.Masks.{has_bit-mask, has_bit-zero, mask_below}
use Rattle.sounder_control.specs.Quiet.{Call as SilenceCall, Drove, is_quiet as is_quiet_over}
use Rattle.output_delays.specs.Runs.{Call as DelayCall, Turned as DelayTurn, is_through}
use Rattle.routing_outputs.specs.Confirmations.{Call as RoutingCall, Turned as RoutingTurn, Confirmed}
use Rattle.panel_rules.specs.Moments.{Moment, Happened, Turned, is_turn, tick_of}
use Rattle.panel_rules.specs.Markers.{Facts}
use Rattle.panel_rules.specs.Outputs.{goes_on, is_on, is_quiet, is_requested, is_sounder, may_act, on_place}
use Rattle.panel_rules.specs.Outputs.{output_numbered, outputs_where, panel_of_output, released_at_effect}
use Rattle.panel_rules.proofs.AnswersTell.{eq_true}
use Rattle.panel_rules.proofs.Turns.{own_turn}
use Rattle.output_calls.specs.DelayCalls.{delay_calls, requests_at}
use Rattle.output_calls.specs.DoneCalls.{IsLatestFirst}
use Rattle.output_calls.specs.RoutingCalls.{confirmed_at, routing_calls}
use Rattle.output_calls.specs.SilenceCalls.{silence_calls, zone_masks}
use Rattle.output_calls.proofs.OutputMasks.{through_mask}
use Rattle.output_calls.proofs.Silencing.{quiet as quiet_by_rules}
use Rattle.output_drive.proofs.OutputBits.{IsFound, bit_where, mask_where, of_plan}

-- of what is requested and may act, without what is disabled and what is silenced
regrouped : (r m o s : Bool) → (((r && m) && not o) && not s) ≡ ((r && not o) && (not s && m))
regrouped false m o s = refl
regrouped true false true s = refl
regrouped true false false true = refl
regrouped true false false false = refl
regrouped true true true s = refl
regrouped true true false true = refl
regrouped true true false false = refl

-- the bit of an output in what a silence keeps off
kept_off_at : (quiet sounds : Bool) (held sounders k : ℕ) → held ≡ (if quiet then sounders else 0) → has_bit sounders k ≡ sounds
    → has_bit held k ≡ (sounds && quiet)
kept_off_at true sounds held sounders k is sounder = ap (λ m. has_bit m k) is ∙ sounder ∙ sym (and_yes sounds)
  where
    and_yes : (b : Bool) → (b && true) ≡ b
    and_yes true = refl
    and_yes false = refl
kept_off_at false sounds held sounders k is sounder = ap (λ m. has_bit m k) is ∙ has_bit-zero k ∙ sym (and_no sounds)
  where
    and_no : (b : Bool) → (b && false) ≡ false
    and_no true = refl
    and_no false = refl

module _ (site : Site) (facts : ℕ → List Moment → Facts) (kept : Retained) (done : List Done) (panel : ℕ) (before : List Moment) where
  -- what the parts are told by a turn of Drive
  pub silence_told : (released : List ℕ) → released ≡ zone_masks site (released_at_effect site facts panel before)
      → ◌≡◌ {A = List SilenceCall} (Drove released ∷ silence_calls site facts done panel before) (silence_calls site facts done panel (Turned panel DriveTask ∷ before))
  silence_told released is =
      ap (λ (zones : List ℕ). Drove zones ∷ silence_calls site facts done panel before) is
      ∙ sym (ap (λ b. if b then Drove (zone_masks site (released_at_effect site facts panel before)) ∷ silence_calls site facts done panel before
      else silence_calls site facts done panel before) (eq_true panel panel refl))

  pub delays_told : (tick : ℕ) (requests : Requests) → tick ≡ tick_of before → requests ≡ requests_at site facts panel before
      → ◌≡◌ {A = List DelayCall} (DelayTurn tick requests ∷ delay_calls site facts done panel before) (delay_calls site facts done panel (Turned panel DriveTask ∷ before))
  delays_told tick requests at is =
      ap (λ t. DelayTurn t requests ∷ delay_calls site facts done panel before) at
      ∙ ap (λ (r : Requests). DelayTurn (tick_of before) r ∷ delay_calls site facts done panel before) is
      ∙ sym (ap (λ b. if b then DelayTurn (tick_of before) (requests_at site facts panel before) ∷ delay_calls site facts done panel before
      else delay_calls site facts done panel before) (eq_true panel panel refl))

  pub routing_told : (tick on : ℕ) → tick ≡ tick_of before
      → on ≡ outputs_where site panel (λ output. is_on site facts kept done output (Turned panel DriveTask ∷ before))
      → ◌≡◌ {A = List RoutingCall} (RoutingTurn tick on ∷ routing_calls site facts kept done panel before) (routing_calls site facts kept done panel (Turned panel DriveTask ∷ before))
  routing_told tick on at is =
      ap (λ t. RoutingTurn t on ∷ routing_calls site facts kept done panel before) at
      ∙ ap (λ mask. RoutingTurn (tick_of before) mask ∷ routing_calls site facts kept done panel before) is
      ∙ sym (ap (λ b. if b then RoutingTurn (tick_of before)
      (outputs_where site panel (λ output. is_on site facts kept done output (Turned panel DriveTask ∷ before)))
      ∷ routing_calls site facts kept done panel before else routing_calls site facts kept done panel before) (eq_true panel panel refl))

  -- and by a confirmation
  pub confirmation_told : (output number : ℕ) (plan : Output) → slice_get site.outputs output ≡ Some plan → plan.panel ≡ panel → plan.number ≡ number
      → ◌≡◌ {A = List RoutingCall} (Confirmed number ∷ routing_calls site facts kept done panel before)
      (routing_calls site facts kept done panel (Happened (ConfirmedEvent output) ∷ before))
  confirmation_told output number plan is same numbered =
      ap (λ n. Confirmed n ∷ routing_calls site facts kept done panel before) (sym numbered)
      ∙ sym (ap (λ b. if b then Confirmed plan.number ∷ routing_calls site facts kept done panel before else routing_calls site facts kept done panel before)
      (eq_true plan.panel panel same))
      ∙ sym (ap (λ (o : Option Output). confirmed_at panel o (routing_calls site facts kept done panel before)) is)

  module _ (valid : IsValid site) (falls : IsLatestFirst done) where
    -- the sounders are quiet by the turn where the rules say so
    pub quiet_is : (released : List ℕ) → released ≡ zone_masks site (released_at_effect site facts panel before)
        → is_quiet_over (Drove released ∷ silence_calls site facts done panel before) ≡ is_quiet site facts kept done panel (Turned panel DriveTask ∷ before)
    quiet_is released is =
        ap is_quiet_over (silence_told released is) ∙ quiet_by_rules site facts kept done panel (Turned panel DriveTask ∷ before) valid falls

    -- what passes the delays is requested and may act
    pub through_is : (tick : ℕ) (requests : Requests) → tick ≡ tick_of before → requests ≡ requests_at site facts panel before
        → mask_of 32 (λ k. is_through site panel (not (has_bit kept.delays_off (panel - 1))) (delay_calls site facts done panel before) tick requests (k + 1))
        ≡ outputs_where site panel (λ output. is_requested site facts output before && may_act site facts kept done output before)
    through_is tick requests at is =
        ap (λ t. mask_of 32
        (λ k. is_through site panel (not (has_bit kept.delays_off (panel - 1))) (delay_calls site facts done panel before) t requests (k + 1))) at
        ∙ ap (λ (r : Requests). mask_of 32
        (λ k. is_through site panel (not (has_bit kept.delays_off (panel - 1))) (delay_calls site facts done panel before) (tick_of before) r (k + 1))) is
        ∙ through_mask site facts kept done panel before valid falls

  -- an output is on after the turn where it goes on
  on_now : (output : ℕ) → panel_of_output site output ≡ panel
      → is_on site facts kept done output (Turned panel DriveTask ∷ before) ≡ goes_on site facts kept done output before
  on_now output of =
      ap (λ b. if b then goes_on site facts kept done output before else is_on site facts kept done output before)
      (ap (λ p. is_turn p DriveTask panel DriveTask) of ∙ own_turn panel DriveTask)

  -- it goes on where it is requested and may act, isn't disabled, and isn't one of sounders that are quiet
  goes_on_is : (output : ℕ) → panel_of_output site output ≡ panel
      → (((is_requested site facts output before && may_act site facts kept done output before) && not (in_force site kept (OutputOff output) (tick_of before) done))
      && not (is_sounder site output && is_quiet site facts kept done panel (Turned panel DriveTask ∷ before)))
      ≡ goes_on site facts kept done output before
  goes_on_is output of =
      ap (λ p. (((is_requested site facts output before && may_act site facts kept done output before) && not (in_force site kept (OutputOff output) (tick_of before) done))
      && not (is_sounder site output && is_quiet site facts kept done p (Turned p DriveTask ∷ before)))) (sym of)
      ∙ regrouped (is_requested site facts output before) (may_act site facts kept done output before) (in_force site kept (OutputOff output) (tick_of before) done)
      (is_sounder site output && is_quiet site facts kept done (panel_of_output site output) (Turned (panel_of_output site output) DriveTask ∷ before))

  -- what the turn makes of the masks
  module _ (through off enabled held sounders on : ℕ) (quiet : Bool)
      (passed : through ≡ outputs_where site panel (λ output. is_requested site facts output before && may_act site facts kept done output before))
      (disabled : (output : ℕ) (plan : Output) → slice_get site.outputs output ≡ Some plan → plan.panel ≡ panel
      → has_bit off (plan.number - 1) ≡ in_force site kept (OutputOff output) (tick_of before) done)
      (silent : quiet ≡ is_quiet site facts kept done panel (Turned panel DriveTask ∷ before))
      (sound : sounders ≡ outputs_where site panel (is_sounder site)) (without_off : enabled ≡ mask_of 32 (λ k. has_bit through k && not (has_bit off k)))
      (kept_off : held ≡ (if quiet then sounders else 0)) (without_held : on ≡ mask_of 32 (λ k. has_bit enabled k && not (has_bit held k))) where
    bits : (k : ℕ) → k < 32 → has_bit on k ≡ ((has_bit through k && not (has_bit off k)) && not (has_bit held k))
    bits k small =
        ap (λ m. has_bit m k) without_held ∙ has_bit-mask 32 (λ j. has_bit enabled j && not (has_bit held j)) k small
        ∙ ap (λ b. b && not (has_bit held k))
        (ap (λ m. has_bit m k) without_off ∙ has_bit-mask 32 (λ j. has_bit through j && not (has_bit off j)) k small)

    bit_of : (k : ℕ) (mask : ℕ) (test : ℕ → Bool) (o : Option ℕ) → k < 32 → mask ≡ outputs_where site panel test
        → output_numbered site panel (k + 1) ≡ o → has_bit mask k ≡ on_place test o
    bit_of k mask test o small is at = ap (λ m. has_bit m k) is ∙ bit_where site panel test k small ∙ ap (on_place test) at

    none_on : (k : ℕ) → k < 32 → output_numbered site panel (k + 1) ≡ None → has_bit on k ≡ false
    none_on k small none =
        bits k small
        ∙ ap (λ b. (b && not (has_bit off k)) && not (has_bit held k))
        (bit_of k through (λ output. is_requested site facts output before && may_act site facts kept done output before) None small passed none)

    off_at : (k output : ℕ) (found : IsFound site panel k output) → has_bit off k ≡ in_force site kept (OutputOff output) (tick_of before) done
    off_at k output found =
        let place : k ≡ found.plan.number - 1 = (let number = found.at_number in omega (arith, number)) in
        ap (has_bit off) place ∙ disabled output found.plan found.is found.at_panel

    one_on : (k output : ℕ) → k < 32 → output_numbered site panel (k + 1) ≡ Some output → IsFound site panel k output
        → has_bit on k ≡ is_on site facts kept done output (Turned panel DriveTask ∷ before)
    one_on k output small at found =
        let of = of_plan site panel output found.plan found.is found.at_panel in
        bits k small
        ∙ ap (λ b. (b && not (has_bit off k)) && not (has_bit held k))
        (bit_of k through (λ o. is_requested site facts o before && may_act site facts kept done o before) (Some output) small passed at)
        ∙ ap (λ b. ((is_requested site facts output before && may_act site facts kept done output before) && not b) && not (has_bit held k))
        (off_at k output found)
        ∙ ap (λ b. ((is_requested site facts output before && may_act site facts kept done output before)
        && not (in_force site kept (OutputOff output) (tick_of before) done)) && not b)
        (kept_off_at quiet (is_sounder site output) held sounders k kept_off (bit_of k sounders (is_sounder site) (Some output) small sound at)
        ∙ ap (λ b. is_sounder site output && b) silent)
        ∙ goes_on_is output of ∙ sym (on_now output of)

    pub on_is : on ≡ outputs_where site panel (λ output. is_on site facts kept done output (Turned panel DriveTask ∷ before))
    on_is =
        mask_where site panel on (λ output. is_on site facts kept done output (Turned panel DriveTask ∷ before))
        (subst (λ m. m < 2 ^ 32) (sym without_held) (mask_below 32 (λ k. has_bit enabled k && not (has_bit held k)))) none_on one_on
