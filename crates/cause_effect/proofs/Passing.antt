-- Places of the order that are passed after a change: those that are marked, one by one, and those between them.
use Rattle.std.proofs.Common.{◌≡◌, ◌≢◌, ◌≤◌, ◌<◌, ◌==◌, ◌+◌, ◌-◌, ◌^◌, ◌&&◌, inl, inr, ℕ, zero, suc, Bool, true, false, List, Some, length, take, get_or}
use Rattle.std.proofs.Common.{refl, sym, ap, subst, ◌∙◌, arith, if◌then◌else◌}
use Rattle.std.specs.Prelude.{slice_get, nat_le}
use Rattle.std.specs.Int.{trailing_zeros, w32}
use Rattle.std.proofs.lemmas.Bool.{cases_lt}
use Rattle.std.proofs.lemmas.Bool.Decides.{eqb_tells, nat_tests}
use Rattle.std.proofs.lemmas.List.{take_all}
use Rattle.std.proofs.lemmas.Nat.Bits.{bit_at-trailing_zeros}
use Rattle.std.proofs.lemmas.Option.{slice_get-get_or}
use Rattle.site_types.specs.Bits.{has_bit}
use Rattle.site_types.specs.declared.site.Site.{Site}
use Rattle.site_types.proofs.Masks.{has_bit-zero}
use Rattle.marker_table.specs.declared.facts.Facts.{Facts}
use Rattle.cause_effect.specs.Changes.{DependsOnChanged}
use Rattle.cause_effect.specs.Cycles.{is_among}
use Rattle.cause_effect.specs.Users.{AreMarksOfChange}
use Rattle.cause_effect.proofs.Changing.{AreCarried, AreEvaluated, carried_still, evaluated_still}
use Rattle.cause_effect.proofs.Depths.{the_values}
use Rattle.cause_effect.proofs.Marking.{IsCleared}
use Rattle.cause_effect.proofs.Truths.{and_first, and_second}

-- ---- what lies between two places that are marked

-- no marker from one place to before another depends on a change
abbrev pub AreFree : Site → Facts → Facts → List ℕ → ℕ → ℕ → Type 0
AreFree site before after order from to =
    (i m : ℕ) → from ≤ i → i < to → slice_get order i ≡ Some m → DependsOnChanged site before after m → ⊥

past_end : (order : List ℕ) (n : ℕ) → length order ≤ n → take n order ≡ take (n + 1) order
past_end order n past = take_all n order past ∙ sym (take_all (n + 1) order (omega (arith, past)))

next_place : (k d : ℕ) → k + suc d ≡ (k + d) + 1
next_place k d = omega arith

carried_one : (site : Site) (before after : Facts) (order : List ℕ) (k : ℕ) (v : ℕ → Bool)
    → ((m : ℕ) → slice_get order k ≡ Some m → DependsOnChanged site before after m → ⊥) → AreCarried site before after order k v
    → AreCarried site before after order (k + 1) v
carried_one site before after order k v free w = elim (cases_lt k (length order)) [
  | inl within ↦ (let at = slice_get-get_or order k 0 within in
      carried_still site before after order k (get_or order k 0) v at w (free (get_or order k 0) at))
  | inr past ↦ record { each = λ m. subst (λ (front : List ℕ). v m ≡ (if is_among m front then the_values site after m else the_values site before m)) (past_end order k past) (w.each m) }
]

carried_over : (site : Site) (before after : Facts) (order : List ℕ) (k d : ℕ) (v : ℕ → Bool) → AreFree site before after order k (k + d)
    → AreCarried site before after order k v → AreCarried site before after order (k + d) v
carried_over site before after order k zero v free w = subst (λ n. AreCarried site before after order n v) (still k) w
  where
    still : (k : ℕ) → k ≡ k + 0
    still k = omega arith
carried_over site before after order k (suc d) v free w =
    subst (λ n. AreCarried site before after order n v) (sym (next_place k d))
    (carried_one site before after order (k + d) v (λ m at. free (k + d) m (omega arith) (omega arith) at)
    (carried_over site before after order k d v (λ i m from to at. free i m from (omega (arith, to)) at) w))

evaluated_one : (site : Site) (before after : Facts) (order : List ℕ) (k start steps : ℕ)
    → ((m : ℕ) → slice_get order k ≡ Some m → DependsOnChanged site before after m → ⊥) → AreEvaluated site before after order k start steps
    → AreEvaluated site before after order (k + 1) start steps
evaluated_one site before after order k start steps free w = elim (cases_lt k (length order)) [
  | inl within ↦ (let at = slice_get-get_or order k 0 within in
      evaluated_still site before after order k (get_or order k 0) start steps at w (free (get_or order k 0) at))
  | inr past ↦ record {
    members = w.members;
    once = w.once;
    all = λ m among d. w.all m (ap (is_among m) (past_end order k past) ∙ among) d;
    only = w.only;
    front = λ m h. ap (is_among m) (sym (past_end order k past)) ∙ w.front m h;
    counted = w.counted;
  }
]

evaluated_over : (site : Site) (before after : Facts) (order : List ℕ) (k d start steps : ℕ) → AreFree site before after order k (k + d)
    → AreEvaluated site before after order k start steps → AreEvaluated site before after order (k + d) start steps
evaluated_over site before after order k zero start steps free w = subst (λ n. AreEvaluated site before after order n start steps) (still k) w
  where
    still : (k : ℕ) → k ≡ k + 0
    still k = omega arith
evaluated_over site before after order k (suc d) start steps free w =
    subst (λ n. AreEvaluated site before after order n start steps) (sym (next_place k d))
    (evaluated_one site before after order (k + d) start steps (λ m at. free (k + d) m (omega arith) (omega arith) at)
    (evaluated_over site before after order k d start steps (λ i m from to at. free i m from (omega (arith, to)) at) w))

pub carried_to : (site : Site) (before after : Facts) (order : List ℕ) (from to : ℕ) (v : ℕ → Bool) → from ≤ to → AreFree site before after order from to
    → AreCarried site before after order from v → AreCarried site before after order to v
carried_to site before after order from to v less free w =
    let e : from + (to - from) ≡ to = omega (arith, less) in
    subst (λ n. AreCarried site before after order n v) e
    (carried_over site before after order from (to - from) v (subst (AreFree site before after order from) (sym e) free) w)

pub evaluated_to : (site : Site) (before after : Facts) (order : List ℕ) (from to start steps : ℕ) → from ≤ to → AreFree site before after order from to
    → AreEvaluated site before after order from start steps → AreEvaluated site before after order to start steps
evaluated_to site before after order from to start steps less free w =
    let e : from + (to - from) ≡ to = omega (arith, less) in
    subst (λ n. AreEvaluated site before after order n start steps) e
    (evaluated_over site before after order from (to - from) start steps (subst (AreFree site before after order from) (sym e) free) w)

-- ---- the bits of a word that are left

-- of the 32 places from one on those are left that are marked and come no earlier than another
abbrev pub AreLeft : (ℕ → Bool) → ℕ → ℕ → ℕ → Type 0
AreLeft marks first passed left = (bit : ℕ) → bit < 32 → has_bit left bit ≡ (marks (first + bit) && nat_le passed (first + bit))

pub all_left_first : (marks : ℕ → Bool) (first left : ℕ) → ((bit : ℕ) → bit < 32 → has_bit left bit ≡ marks (first + bit)) → AreLeft marks first first left
all_left_first marks first left same bit small = same bit small ∙ with_true (marks (first + bit)) (nat_le first (first + bit)) (grind (arith, nat_tests))
  where
    with_true : (a b : Bool) → b ≡ true → a ≡ (a && b)
    with_true true b e = sym e
    with_true false b e = refl

-- the lowest place that is left
pub record IsLowest (marks : ℕ → Bool) (first passed left bit : ℕ) : Type 0 where
  pub small : bit < 32
  pub later : passed ≤ first + bit
  pub marked : marks (first + bit) ≡ true
  pub none : (k : ℕ) → k < bit → has_bit left k ≡ false

reaches : (m n : ℕ) → nat_le m n ≡ true → m ≤ n
reaches m n h = grind (arith, nat_tests, h)

pub lowest : (marks : ℕ → Bool) (first passed left : ℕ) → AreLeft marks first passed left → left ≢ 0 → left < 2 ^ 32
    → IsLowest marks first passed left (trailing_zeros w32 left)
lowest marks first passed left are some fits =
    let at = bit_at-trailing_zeros w32 left (let e : left ≢ 0 = some in omega (arith, e)) fits in
    let bit = trailing_zeros w32 left in
    let both = sym (are bit at.0) ∙ ap (λ b. b == 1) at.1 in
    record {
      small = at.0;
      later = reaches passed (first + bit) (and_second (marks (first + bit)) (nat_le passed (first + bit)) both);
      marked = and_first (marks (first + bit)) (nat_le passed (first + bit)) both;
      none = λ k less. ap (λ b. b == 1) (at.2 k less);
    }

-- up to it none is marked
pub free_to : (site : Site) (before after : Facts) (order : List ℕ) (marks : ℕ → Bool) (first passed left bit : ℕ)
    → AreMarksOfChange site before after order marks → AreLeft marks first passed left → first ≤ passed → bit ≤ 32
    → ((k : ℕ) → k < bit → has_bit left k ≡ false) → AreFree site before after order passed (first + bit)
free_to site before after order marks first passed left bit marked are from small none i m late less at depends =
    let k = i - first in
    let e : first + k ≡ i = omega (arith, from, late) in
    let off = none k (omega (arith, e, less)) in
    let is = are k (omega (arith, e, less, small)) in
    let on : marks (first + k) ≡ true = subst (λ n. marks n ≡ true) (sym e) (marked.all i m at depends) in
    clash (marks (first + k)) (nat_le passed (first + k)) (has_bit left k) on (let f : first + k ≡ i = e in grind (arith, nat_tests, f, late)) is off
  where
    clash : (a b c : Bool) → a ≡ true → b ≡ true → c ≡ (a && b) → c ≡ false → ⊥
    clash true true c e f g h = cc
    clash true false c e f g h = cc
    clash false b c e f g h = cc

-- and without it those are left that come after it
pub left_after : (marks : ℕ → Bool) (first passed left bit less : ℕ) → AreLeft marks first passed left → IsLowest marks first passed left bit
    → IsCleared bit left less → AreLeft marks first ((first + bit) + 1) less
left_after marks first passed left bit less are low cleared k small = elim (eqb_tells k bit) [
  | inl here ↦ off (has_bit less k) (marks (first + k)) (nat_le ((first + bit) + 1) (first + k)) (subst (λ n. has_bit less n ≡ false) (sym here.1) cleared.this)
      (let e = here.1 in grind (arith, nat_tests, e))
  | inr apart ↦ cleared.others k small apart.1 ∙ elim (cases_lt k bit) [
    | inl lower ↦ off (has_bit left k) (marks (first + k)) (nat_le ((first + bit) + 1) (first + k)) (low.none k lower) (grind (arith, nat_tests, lower))
    | inr higher ↦ are k small ∙ ap (λ b. marks (first + k) && b) (
        let other : k ≢ bit = apart.1 in
        let late = low.later in
        both_reach (nat_le passed (first + k)) (nat_le ((first + bit) + 1) (first + k))
        (let over : first + bit ≤ first + k = omega (arith, higher) in grind (arith, nat_tests, late, over))
        (let over : (first + bit) + 1 ≤ first + k = omega (arith, higher, other) in grind (arith, nat_tests, over)))
  ]
]
  where
    off : (c a b : Bool) → c ≡ false → b ≡ false → c ≡ (a && b)
    off c true b e f = e ∙ sym f
    off c false b e f = e

    both_reach : (a b : Bool) → a ≡ true → b ≡ true → a ≡ b
    both_reach a b e f = e ∙ sym f

pub none_left_over : (left : ℕ) → left ≡ 0 → (k : ℕ) → k < 32 → has_bit left k ≡ false
none_left_over left none k small = ap (λ n. has_bit n k) none ∙ has_bit-zero k
