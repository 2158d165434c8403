-- A cable with nothing wrong reaches each address of its loop.
use Rattle.std.proofs.Common.{◌≡◌, ℕ, zero, suc, ◌+◌, ◌<◌, ◌≤◌, ◌==◌, Bool, true, false, ◌&&◌, ◌||◌, not, refl, sym, ◌∙◌, ap, arith, inl, inr}
use Rattle.std.proofs.lemmas.Bool.{cases_eq}
use Rattle.std.specs.List.{list_any, range_with_len}
use Rattle.std.specs.Prelude.{Option, Some, None}
use Rattle.site_types.specs.declared.loop_plan.LoopPlan.{LoopPlan}
use Rattle.site_types.specs.Sections.{section_of, section_of_piece}
use Rattle.isolators.specs.Reach.{Cable, holds_short, is_open, is_passed, is_reached, is_reached_from_a, is_reached_from_b, is_short, status_of}
use Rattle.isolators.proofs.Ranges.{all_true}
use Rattle.loop_poller.specs.Asked.{is_reached_on, status_on}
use Rattle.loop_poller.specs.Stands.{IsOnLoop}

neither : (a b : Bool) → (a || b) ≡ false → (a ≡ false) × (b ≡ false)
neither true b e = absurd (cc)
neither false b e = (refl, e)

none_of : (test : ℕ → Bool) (a n k : ℕ) → list_any test (range_with_len a n) ≡ false → a ≤ k → k < a + n → test k ≡ false
none_of test a zero k none low high = absurd (omega arith)
none_of test a (suc n) k none low high =
    let both = neither (test a) (list_any test (range_with_len (a + 1) n)) none in
    elim (cases_eq a k) [
      | inl same ↦ ap test (sym same) ∙ both.0
      | inr other ↦ none_of test (a + 1) n k both.1 (omega arith) (omega arith)
    ]

pub any_false : (test : ℕ → Bool) (a n : ℕ) → ((k : ℕ) → a ≤ k → k < a + n → test k ≡ false) → list_any test (range_with_len a n) ≡ false
any_false test a zero none = refl
any_false test a (suc n) none =
    let here : test a ≡ false = none a (omega arith) (omega arith) in
    let rest : list_any test (range_with_len (a + 1) n) ≡ false = any_false test (a + 1) n (λ k low high. none k (omega arith) (omega arith)) in
    rw (here, rest) refl

module _ (plan : LoopPlan) (cable : Cable) (whole : (status_of plan cable).broken ≡ false) (unshorted : (status_of plan cable).shorted ≡ false) where
  holds_none : (place : ℕ) → holds_short plan cable place ≡ false
  holds_none place =
      any_false (λ piece. is_short (cable piece) && (section_of_piece plan.isolators piece == place)) 0 (plan.last + 1)
      (λ piece low high. ap (λ b. b && (section_of_piece plan.isolators piece == place))
      (none_of (λ piece. is_short (cable piece)) 0 (plan.last + 1) piece unshorted low high))

  passes : (piece : ℕ) → piece < plan.last + 1 → is_passed plan cable piece ≡ true
  passes piece within =
      let closed : is_open (cable piece) ≡ false = none_of (λ piece. is_open (cable piece)) 0 (plan.last + 1) piece whole (omega arith) (omega (arith, within)) in
      rw (closed, holds_none (section_of_piece plan.isolators piece)) refl

  pub reaches_all : (address : ℕ) → address ≤ plan.last → is_reached plan cable address ≡ true
  reaches_all address within =
      let from_a : is_reached_from_a plan cable address ≡ true =
      all_true (is_passed plan cable) 0 address (λ piece low high. passes piece (omega (arith, high, within))) in
      ap (λ b. not b && (is_reached_from_a plan cable address || is_reached_from_b plan cable address)) (holds_none (section_of plan.isolators address))
      ∙ ap (λ b. b || is_reached_from_b plan cable address) from_a

-- where a loop has a point, there is a loop
pub reaches_on : (loop : Option LoopPlan) (cable : Cable) (address : ℕ) → (loop ≡ None → ⊥) → (status_on loop cable).broken ≡ false
    → (status_on loop cable).shorted ≡ false → IsOnLoop loop address → is_reached_on loop cable address ≡ true
reaches_on None cable address there whole unshorted on = absurd (there refl)
reaches_on (Some plan) cable address there whole unshorted on = reaches_all plan cable whole unshorted address on
