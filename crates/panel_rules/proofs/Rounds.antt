-- The facts on the numbers of ticks of a site's format that the rest rests on. The two formats are told apart
-- here alone.
use Rattle.std.proofs.Common.{◌≡◌, ℕ, zero, suc, ◌+◌, ◌-◌, ◌*◌, ◌%◌, ◌≤◌, ◌<◌, ◌⊎◌, inl, inr, refl, sym, ◌∙◌, subst, arith, ◌/◌}
use Rattle.std.specs.Prelude.{true, ◌==◌}
use Rattle.std.proofs.lemmas.Bool.{eqb-true}
use Rattle.std.proofs.lemmas.Bool.Decides.{eqb_tells}
use Rattle.site_types.specs.Profile.{round_of}
use Rattle.panel_rules.specs.Records.{AskedOnceInARound}

-- a site's format
abbrev pub IsFormat : ℕ → Type 0
IsFormat format = (1 ≤ format) × (format ≤ 2)

pub one_or_two : (format : ℕ) → IsFormat format → (format ≡ 1) ⊎ (format ≡ 2)
one_or_two zero h = absurd (omega arith)
one_or_two (suc zero) h = inl refl
one_or_two (suc (suc zero)) h = inr refl
one_or_two (suc (suc (suc n))) h = absurd (omega arith)

-- a tick of a round of so many ticks at which a group is asked
pub record AskingIn (round group first : ℕ) : Type 0 where
  pub tick : ℕ
  pub from : first ≤ tick
  pub by : tick + 1 ≤ first + round
  pub asks : tick % round ≡ group

asking_12 : (group first : ℕ) → group < 12 → AskingIn 12 group first
asking_12 group first l = record { tick = first + (group + 12 - first % 12) % 12; from = omega arith; by = omega arith; asks = omega arith }

asking_24 : (group first : ℕ) → group < 24 → AskingIn 24 group first
asking_24 group first l = record { tick = first + (group + 24 - first % 24) % 24; from = omega arith; by = omega arith; asks = omega arith }

-- in each round each group is asked
pub asking : (format group first : ℕ) → IsFormat format → group < round_of format → AskingIn (round_of format) group first
asking format group first h l =
    elim (one_or_two format h) [
      | inl e ↦ rw e (asking_12 group first (subst (λ f. group < 12 * f) e l))
      | inr e ↦ rw e (asking_24 group first (subst (λ f. group < 12 * f) e l))
    ]

eq_true : (a b : ℕ) → a ≡ b → (a == b) ≡ true
eq_true a b e = elim (eqb_tells a b) [ inl h ↦ h.0 | inr h ↦ absurd (h.1 e) ]

only_12 : (first one other : ℕ) → first ≤ one → one < first + 12 → first ≤ other → other < first + 12 → other % 12 ≡ one % 12 → other ≡ one
only_12 first one other a b c d e = omega arith

only_24 : (first one other : ℕ) → first ≤ one → one < first + 24 → first ≤ other → other < first + 24 → other % 24 ≡ one % 24 → other ≡ one
only_24 first one other a b c d e = omega arith

only : (format first one other : ℕ) → IsFormat format → first ≤ one → one < first + round_of format → first ≤ other → other < first + round_of format
    → other % round_of format ≡ one % round_of format → other ≡ one
only format first one other h =
    elim (one_or_two format h) [
      | inl e ↦ rw e (only_12 first one other)
      | inr e ↦ rw e (only_24 first one other)
    ]

-- each address is asked once in a round
pub asked_once : AskedOnceInARound
asked_once format address first low high one last =
    let group = (address - 1) / 8 in
    let x = asking format group first (low, high) (omega arith) in
    record {
      tick = x.tick;
      from = x.from;
      by = omega (arith, x.by);
      asked = eq_true (x.tick % round_of format) group x.asks;
      only =
          λ other l u a. (let g = eqb-true (other % round_of format) group a in
          only format first x.tick other (low, high) x.from (omega (arith, x.by)) l u (g ∙ sym x.asks));
    }
