-- Before the first tick no faults are shown.
use Rattle.std.proofs.Common.{◌≡◌, ℕ, ◌+◌, ◌&&◌, not, List, [], ◌∷◌, Option, Some, None, slice_get, Bool, true, false, refl, sym, ◌∙◌, arith}
use Rattle.std.specs.Prelude.{nat_lt}
use Rattle.std.specs.List.{list_any, range_with_len}
use Rattle.site_types.specs.declared.loop_plan.LoopPlan.{LoopPlan}
use Rattle.site_types.specs.declared.output.Output.{Output}
use Rattle.site_types.specs.declared.piece_state.PieceState.TheVariants.{Sound}
use Rattle.site_types.specs.declared.retained.Retained.{Retained}
use Rattle.site_types.specs.declared.site.Site.{Site}
use Rattle.site_types.specs.declared.fault_set.FaultSet.{FaultSet}
use Rattle.site_types.specs.declared.point_set.PointSet.{PointSet}
use Rattle.site_types.specs.Bits.{mask_of}
use Rattle.site_types.specs.Done.{Done}
use Rattle.site_types.specs.Events.{is_confirming}
use Rattle.site_types.specs.Profile.{silent_of}
use Rattle.site_types.proofs.Done.{lt_false}
use Rattle.site_types.proofs.Masks.{has_bit-mask, mask_below, mask_empty}
use Rattle.isolators.specs.Reach.{is_open, is_short}
use Rattle.loop_poller.specs.Asked.{status_on}
use Rattle.site_types.specs.Things.{loop_of}
use Rattle.supply_monitor.specs.Supply.{is_shown, kind_at, shown_mask}
use Rattle.coincidence_rules.specs.Missing.{is_missing}
use Rattle.panel_conditions.specs.Missing.{is_off}
use Rattle.panel_conditions.specs.Points.{addressed, addresses_where, on_point, points_where}
use Rattle.site_types.specs.Words.{no_faults}
use Rattle.panel_links.specs.Stands.{is_link_of}
use Rattle.panel_rules.specs.Kept.{heard}
use Rattle.panel_rules.specs.States.{is_up}
use Rattle.panel_rules.specs.Outputs.{on_output, on_place, output_numbered, outputs_where}
use Rattle.panel_rules.specs.Faults.{broken_loops, is_unconfirmed, links_down, shorted_loops, silent_panels}
use Rattle.panel_rules.specs.Run.{facts_with, faults_of, tells_fault}

mask_none : (n : ℕ) (test : ℕ → Bool) → ((k : ℕ) → test k ≡ false) → mask_of n test ≡ 0
mask_none n test h = mask_empty n (mask_of n test) (mask_below n test) (λ k small. has_bit-mask n test k small ∙ h k)

and_none : (a b : Bool) → b ≡ false → (a && b) ≡ false
and_none true b e = e
and_none false b e = refl

none_any : (test : ℕ → Bool) (xs : List ℕ) → ((x : ℕ) → test x ≡ false) → list_any test xs ≡ false
none_any test [] h = refl
none_any test (x ∷ xs) h = rw (h x, none_any test xs h) refl

none_on : (o : Option ℕ) (test : ℕ → Bool) → ((k : ℕ) → test k ≡ false) → on_point test o ≡ false
none_on None test h = refl
none_on (Some k) test h = h k

none_placed : (o : Option ℕ) (test : ℕ → Bool) → ((k : ℕ) → test k ≡ false) → on_place test o ≡ false
none_placed None test h = refl
none_placed (Some k) test h = h k

module _ (site : Site) (kept : Retained) (done : List Done) (panel : ℕ) where
  no_points : (test : ℕ → Bool) → ((k : ℕ) → test k ≡ false) → points_where site panel test ≡ no_faults.missing
  unfolding points_where addresses_where
  no_points test h =
      rw (none_at 1 0, none_at 1 96, none_at 2 0, none_at 2 96, none_at 3 0, none_at 3 96, none_at 4 0, none_at 4 96) refl
    where
      none_at : (line past : ℕ) → mask_of 96 (λ k. on_point test (addressed site panel line (past + k + 1))) ≡ 0
      none_at line past =
          mask_none 96 (λ k. on_point test (addressed site panel line (past + k + 1)))
          (λ k. none_on (addressed site panel line (past + k + 1)) test h)

  no_outputs : (test : ℕ → Bool) → ((k : ℕ) → test k ≡ false) → outputs_where site panel test ≡ 0
  unfolding outputs_where
  no_outputs test h =
      mask_none 32 (λ k. on_place test (output_numbered site panel (k + 1))) (λ k. none_placed (output_numbered site panel (k + 1)) test h)

  not_broken : (plan : Option LoopPlan) → (status_on plan (λ piece. Sound)).broken ≡ false
  not_broken None = refl
  not_broken (Some plan) = none_any (λ piece. is_open Sound) (range_with_len 0 (plan.last + 1)) (λ x. refl)

  not_shorted : (plan : Option LoopPlan) → (status_on plan (λ piece. Sound)).shorted ≡ false
  not_shorted None = refl
  not_shorted (Some plan) = none_any (λ piece. is_short Sound) (range_with_len 0 (plan.last + 1)) (λ x. refl)

  none_broken : broken_loops site panel [] ≡ 0
  none_broken = mask_none 4 (λ k. (status_on (loop_of site panel (k + 1)) (λ piece. Sound)).broken) (λ k. not_broken (loop_of site panel (k + 1)))

  none_shorted : shorted_loops site panel [] ≡ 0
  none_shorted = mask_none 4 (λ k. (status_on (loop_of site panel (k + 1)) (λ piece. Sound)).shorted) (λ k. not_shorted (loop_of site panel (k + 1)))

  none_supplied : shown_mask site.waits [] ≡ 0
  none_supplied = mask_none 4 (λ k. is_shown site.waits (kind_at k) []) (λ k. refl)

  none_silent : silent_panels site (λ source. heard site.panels panel source []) 0 ≡ 0
  none_silent =
      mask_none 8 (λ k. nat_lt k site.panels && nat_lt (0 + silent_of site.format) 0)
      (λ k. and_none (nat_lt k site.panels) (nat_lt (0 + silent_of site.format) 0) (lt_false (0 + silent_of site.format) 0 (omega arith)))

  none_down : links_down site panel (λ link. is_up link []) ≡ 0
  none_down = mask_none 8 (λ k. is_link_of site.panels panel (k + 1) && false) (λ k. and_none (is_link_of site.panels panel (k + 1)) false refl)

  none_unconfirmed :
      outputs_where site panel (λ output. is_unconfirmed site (facts_with site kept done (tells_fault site kept done)) kept done output []) ≡ 0
  none_unconfirmed =
      no_outputs (λ output. is_unconfirmed site (facts_with site kept done (tells_fault site kept done)) kept done output [])
      (λ output. and_none (on_output (λ (o : Output). is_confirming o.kind) (slice_get site.outputs output)) false refl)

  none_missing : points_where site panel (λ place. is_missing [] place && not (is_off site kept done place 0)) ≡ no_faults.missing
  none_missing = no_points (λ place. is_missing [] place && not (is_off site kept done place 0)) (λ k. refl)

  pub no_faults_yet : no_faults ≡ faults_of site kept done panel []
  no_faults_yet =
      sym (all_none (points_where site panel (λ place. is_missing [] place && not (is_off site kept done place 0))) (broken_loops site panel [])
      (shorted_loops site panel []) (shown_mask site.waits [])
      (silent_panels site (λ source. heard site.panels panel source []) 0) (links_down site panel (λ link. is_up link []))
      (outputs_where site panel (λ output. is_unconfirmed site (facts_with site kept done (tells_fault site kept done)) kept done output []))
      none_missing none_broken none_shorted none_supplied none_silent none_down none_unconfirmed)
    where
      all_none : (missing : PointSet) (broken shorted supply silent links unconfirmed : ℕ) → missing ≡ no_faults.missing → broken ≡ 0 → shorted ≡ 0
          → supply ≡ 0 → silent ≡ 0 → links ≡ 0 → unconfirmed ≡ 0
          → (let set : FaultSet = record {
            missing = missing;
            broken = broken;
            shorted = shorted;
            supply = supply;
            silent = silent;
            links =
                links;
            unconfirmed = unconfirmed;
          } in set ≡ no_faults)
      all_none missing broken shorted supply silent links unconfirmed a b c d e f g = rw (a, b, c, d, e, f, g) refl
