-- What holds of a site of format 1 in each run: nothing is due before tick 21. And what its outputs ask for.
use Rattle.std.proofs.Common.{◌≡◌, ◌⊎◌, ℕ, zero, suc, ◌+◌, ◌≤◌, ◌++◌, Bool, true, false, ◌||◌, List, [], ◌∷◌, Option, Some, None, slice_get, inl, inr, refl, sym, ◌∙◌, ap, subst, arith}
use Rattle.std.proofs.lemmas.Bool.Decides.{leb_tells}
use Rattle.site_types.specs.declared.output.Output.{Output}
use Rattle.site_types.specs.declared.retained.Retained.{Retained}
use Rattle.site_types.specs.declared.site.Site.{Site}
use Rattle.site_types.specs.declared.zone.Zone.{Zone}
use Rattle.site_types.specs.Done.{Done}
use Rattle.panel_rules.specs.Moments.{Moment, tick_of, up_to}
use Rattle.panel_rules.specs.Markers.{Facts}
use Rattle.panel_rules.specs.Outputs.{is_true_over}
use Rattle.panel_rules.specs.Due.{Signals, by_call_point, by_one, by_itself, by_two, by_pair, SignalsOut, by_signal, by_hand, by_second, IsDueAfter, own, by_way, IsDue, IsDueOut, IsDueByHand}
use Rattle.panel_rules.specs.DueOutputs.{IsDueOn, IsDueAsked, IsDueAskedByHand, IsDueThrough}
use Rattle.panel_rules.proofs.Stays.{up_to_here}
use Rattle.audit_rules.specs.Examples.{Unnamed, site_one}

-- a history up to a tick has no later moment
pub up_to_by : (tick : ℕ) (m : List Moment) → tick_of (up_to tick m) ≤ tick
up_to_by tick [] = omega arith
up_to_by tick (moment ∷ before) =
    elim (leb_tells (tick_of (moment ∷ before)) tick) [
      | inl l ↦ rw l.0 l.1
      | inr l ↦ rw l.0 (up_to_by tick before)
    ]

module _ (site : Site) (kept : Retained) (done : List Done) (format : site.format ≡ 1) where
  signals_from : (moments : List Moment) (zone last settled : ℕ) → Signals site kept done moments zone last settled → 1 ≤ settled
  signals_from moments zone last settled (by_call_point h) = h.begins
  signals_from moments zone last settled (by_one h) = h.begins
  signals_from moments zone last settled (by_itself h) = omega (arith, h.begins, h.settles)
  signals_from moments zone last settled (by_two h) = omega (arith, h.held.begins, h.held.follows)
  signals_from moments zone last settled (by_pair h) = omega (arith, h.held.begins, h.held.follows)

  signals_out_from : (moments : List Moment) (zone last settled : ℕ) → SignalsOut site kept done moments zone last settled → 1 ≤ settled
  signals_out_from moments zone last settled (by_signal other h) = signals_from moments zone last settled h
  signals_out_from moments zone last settled (by_hand h) = h.begins
  signals_out_from moments zone last settled (by_second h) = omega (arith, h.held.begins, h.held.follows)

  late_by : (moments : List Moment) (zone panel settled : ℕ) → 1 ≤ settled → IsDueAfter site kept done moments zone panel settled
      → 21 ≤ tick_of moments
  late_by moments zone panel settled from (own same l) = omega (arith, from, l, format)
  late_by moments zone panel settled from (by_way first last l k e joined) = omega (arith, from, l, k, format)

  pub due_late : (moments : List Moment) (zone panel : ℕ) → IsDue site kept done moments zone panel → 21 ≤ tick_of moments
  due_late moments zone panel h =
      late_by moments zone panel h.settled (signals_from moments zone (tick_of moments) h.settled h.signal) h.late

  due_out_late : (moments : List Moment) (zone panel : ℕ) → IsDueOut site kept done moments zone panel → 21 ≤ tick_of moments
  due_out_late moments zone panel h =
      late_by moments zone panel h.settled (signals_out_from moments zone (tick_of moments) h.settled h.signal) h.late

  due_hand_late : (moments : List Moment) (zone panel : ℕ) → IsDueByHand site kept done moments zone panel → 21 ≤ tick_of moments
  due_hand_late moments zone panel h = late_by moments zone panel h.settled h.signal.begins h.late

-- ---- the site of the small cases

module _ (unnamed : Unnamed) where
  -- one of the two that an output looks at
  one_of_two : (a b : Bool) → (a || (b || false)) ≡ true → (a ≡ true) ⊎ (b ≡ true)
  one_of_two true b h = inl refl
  one_of_two false true h = inr refl
  one_of_two false false h = cc

  alone : (a : Bool) → (a || false) ≡ true → a ≡ true
  alone true h = refl
  alone false h = cc

  -- an output is asked for only where some zone is released
  asks_for_zone : (facts : Facts) (output : ℕ) → is_true_over (site_one unnamed) output facts ≡ true → (zone : ℕ) × (facts.released zone ≡ true)
  asks_for_zone facts zero h =
      elim (one_of_two (facts.released 0) (facts.released 1) h) [ inl t ↦ (0, t) | inr t ↦ (1, t) ]
  asks_for_zone facts (suc zero) h = (0, alone (facts.released 0) h)
  asks_for_zone facts (suc (suc output)) h = cc

  module _ (kept : Retained) (done : List Done) where
    by_hand_late : (moments : List Moment) (output : ℕ) → IsDueAskedByHand (site_one unnamed) kept done moments output → 21 ≤ tick_of moments
    by_hand_late moments output h =
        let z = asks_for_zone h.facts output h.asks in
        due_hand_late (site_one unnamed) kept done refl moments z.0 _ (h.due.released z.0 z.1)

    asked_late : (moments : List Moment) (output : ℕ) → IsDueAsked (site_one unnamed) kept done moments output → 21 ≤ tick_of moments
    asked_late moments output h =
        let z = asks_for_zone h.facts output h.asks in
        due_out_late (site_one unnamed) kept done refl moments z.0 _ (h.due.released z.0 z.1)

    through_late : (moments : List Moment) (output : ℕ) → IsDueThrough (site_one unnamed) kept done moments output → 21 ≤ tick_of moments
    through_late moments output h =
        let now : IsDueAsked (site_one unnamed) kept done (up_to (tick_of moments) moments) output = h.each (tick_of moments) (omega arith) (omega arith) in
        asked_late moments output (subst (λ m. IsDueAsked (site_one unnamed) kept done m output) (up_to_here moments) now)

    pub due_on_late : (moments : List Moment) (output : ℕ) → IsDueOn (site_one unnamed) kept done moments output → 21 ≤ tick_of moments
    due_on_late moments output h =
        elim h.asked [ inl t ↦ by_hand_late moments output t | inr t ↦ through_late moments output t ]

  -- its zones and outputs are of panel 1, and have numbers from 1 on
  pub zone_is : (place : ℕ) (plan : Zone) → slice_get (site_one unnamed).zones place ≡ Some plan → (plan.panel ≡ 1) × (1 ≤ plan.number)
  zone_is zero plan h = let e = cc_zone _ plan h in (sym (ap (λ (z : Zone). z.panel) e), subst (λ (z : Zone). 1 ≤ z.number) e (omega arith))
    where
      cc_zone : (one plan : Zone) → Some one ≡ Some plan → one ≡ plan
      cc_zone one plan h = cc
  zone_is (suc zero) plan h = let e = cc_zone _ plan h in (sym (ap (λ (z : Zone). z.panel) e), subst (λ (z : Zone). 1 ≤ z.number) e (omega arith))
    where
      cc_zone : (one plan : Zone) → Some one ≡ Some plan → one ≡ plan
      cc_zone one plan h = cc
  zone_is (suc (suc place)) plan h = absurd cc

  pub output_is : (place : ℕ) (plan : Output) → slice_get (site_one unnamed).outputs place ≡ Some plan → (plan.panel ≡ 1) × (1 ≤ plan.number)
  output_is zero plan h = let e = cc_output _ plan h in (sym (ap (λ (o : Output). o.panel) e), subst (λ (o : Output). 1 ≤ o.number) e (omega arith))
    where
      cc_output : (one plan : Output) → Some one ≡ Some plan → one ≡ plan
      cc_output one plan h = cc
  output_is (suc zero) plan h = let e = cc_output _ plan h in (sym (ap (λ (o : Output). o.panel) e), subst (λ (o : Output). 1 ≤ o.number) e (omega arith))
    where
      cc_output : (one plan : Output) → Some one ≡ Some plan → one ≡ plan
      cc_output one plan h = cc
  output_is (suc (suc place)) plan h = absurd cc
