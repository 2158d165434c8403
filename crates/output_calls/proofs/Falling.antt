-- Tests of falling ticks that hold of each earlier tick where they hold of one.
use Rattle.std.proofs.Common.{◌≡◌, ◌≤◌, ◌+◌, ◌-◌, ◌||◌, ℕ, Bool, true, false, List, [], ◌∷◌, inl, inr, refl, sym, ◌∙◌}
use Rattle.std.proofs.Common.{ap, arith}
use Rattle.std.specs.Prelude.{nat_le}
use Rattle.std.specs.List.{list_any}
use Rattle.std.proofs.lemmas.Bool.Decides.{leb_tells}
use Rattle.tick_units.specs.Earliest.{earliest, IsFalling}
use Rattle.panel_rules.proofs.Floors.{le_to}

pub earliest_by : (latest : ℕ) (ticks : List ℕ) → IsFalling (latest ∷ ticks) → earliest latest ticks ≤ latest
earliest_by latest [] falls = omega arith
earliest_by latest (next ∷ ticks) falls = let rest = earliest_by next ticks falls.1 in let less = falls.0.0 in omega (arith, rest, less)

-- such a test holds of some tick exactly where it holds of the earliest
pub any_earliest : (test : ℕ → Bool) → ((a b : ℕ) → a ≤ b → test b ≡ true → test a ≡ true) → (latest : ℕ) (ticks : List ℕ)
    → IsFalling (latest ∷ ticks) → list_any test (latest ∷ ticks) ≡ test (earliest latest ticks)
any_earliest test earlier latest [] falls = or_false (test latest)
  where
    or_false : (b : Bool) → (b || false) ≡ b
    or_false true = refl
    or_false false = refl
any_earliest test earlier latest (next ∷ ticks) falls =
    ap (λ b. test latest || b) (any_earliest test earlier next ticks falls.1)
    ∙ join (test latest) (test (earliest next ticks))
    (λ h. earlier (earliest next ticks) latest (let by = earliest_by next ticks falls.1 in let less = falls.0.0 in omega (arith, by, less)) h)
  where
    join : (a b : Bool) → (a ≡ true → b ≡ true) → (a || b) ≡ b
    join true b to = sym (to refl)
    join false b to = refl

-- so many ticks have passed since a tick
pub passed : (count first now : ℕ) → first ≤ now → nat_le (first + count) now ≡ nat_le count (now - first)
passed count first now by = elim (leb_tells (first + count) now) [
  | inl t ↦ (let l = t.1 in t.0 ∙ sym (le_to count (now - first) (omega (arith, l))))
  | inr t ↦ elim (leb_tells count (now - first)) [ inl u ↦ (let l = t.1 in let m = u.1 in absurd (omega (arith, l, m, by))) | inr u ↦ t.0 ∙ sym u.0 ]
]
