-- The least tick of which something holds, where it may come to hold of one more.
use Rattle.std.proofs.Common.{◌≡◌, ◌⊎◌, inl, inr, ℕ, ◌≤◌, min, Option, Some, None, subst, arith}
use Rattle.std.proofs.lemmas.Bool.{cases_lt}
use Rattle.zone_signals.specs.Least.{IsLeastTick, earlier_of_ticks}

module _ (Before After : ℕ → Type 0) where
  -- what held goes on, and it comes to hold of no earlier tick
  pub least_kept : (value least : ℕ) → ((tick : ℕ) → Before tick → After tick) → ((tick : ℕ) → Before tick → tick ≤ value)
      → ((tick : ℕ) → After tick → Before tick ⊎ (tick ≡ value)) → IsLeastTick Before (Some least) → IsLeastTick After (Some least)
  least_kept value least stays older splits is = (
    stays least is.0,
    λ tick holds.
        elim (splits tick holds) [
          | inl before ↦ is.1 tick before
          | inr new ↦ (let by = older least is.0 in omega (arith, by, new))
        ],
  )

  -- it comes to hold of a first tick
  pub least_found : (value : ℕ) → After value → ((tick : ℕ) → After tick → Before tick ⊎ (tick ≡ value)) → IsLeastTick Before None
      → IsLeastTick After (Some value)
  least_found value found splits none = (
    found,
    λ tick holds.
        elim (splits tick holds) [
          | inl before ↦ absurd (none tick before)
          | inr new ↦ omega (arith, new)
        ],
  )

  -- it holds of none yet
  pub least_none : (value : ℕ) → (After value → ⊥) → ((tick : ℕ) → After tick → Before tick ⊎ (tick ≡ value)) → IsLeastTick Before None
      → IsLeastTick After None
  least_none value never splits none tick holds =
      elim (splits tick holds) [
        | inl before ↦ none tick before
        | inr new ↦ never (subst After new holds)
      ]

  -- of two that hold of the same ticks the least is the same
  pub least_same : ((tick : ℕ) → Before tick → After tick) → ((tick : ℕ) → After tick → Before tick) → (o : Option ℕ) → IsLeastTick Before o
      → IsLeastTick After o
  least_same to from None none = λ tick holds. none tick (from tick holds)
  least_same to from (Some least) is = (to least is.0, λ tick holds. is.1 tick (from tick holds))

-- the least of what either holds of is the earlier of both
pub least_either : (One Other Either : ℕ → Type 0) → ((tick : ℕ) → One tick → Either tick) → ((tick : ℕ) → Other tick → Either tick)
    → ((tick : ℕ) → Either tick → One tick ⊎ Other tick) → (o p : Option ℕ) → IsLeastTick One o → IsLeastTick Other p
    → IsLeastTick Either (earlier_of_ticks o p)
least_either One Other Either one other either None None never none = λ tick holds.
    elim (either tick holds) [ inl h ↦ never tick h | inr h ↦ none tick h ]
least_either One Other Either one other either None (Some second) never is = (
  other second is.0,
  λ tick holds.
      elim (either tick holds) [ inl h ↦ absurd (never tick h) | inr h ↦ is.1 tick h ],
)
least_either One Other Either one other either (Some first) None is never = (
  one first is.0,
  λ tick holds.
      elim (either tick holds) [ inl h ↦ is.1 tick h | inr h ↦ absurd (never tick h) ],
)
least_either One Other Either one other either (Some first) (Some second) is also = (
  least,
  λ tick holds.
      elim (either tick holds) [
        | inl h ↦ (let by = is.1 tick h in omega (arith, by))
        | inr h ↦ (let by = also.1 tick h in omega (arith, by))
      ],
)
  where
    least : Either (min first second)
    least =
        elim (order first second) [
          | inl by ↦ subst Either (let e : first ≡ min first second = omega (arith, by) in e) (one first is.0)
          | inr by ↦ subst Either (let e : second ≡ min first second = omega (arith, by) in e) (other second also.0)
        ]
      where
        order : (a b : ℕ) → (a ≤ b) ⊎ (b ≤ a)
        order a b = elim (cases_lt a b) [ inl less ↦ inl (omega (arith, less)) | inr by ↦ inr by ]
