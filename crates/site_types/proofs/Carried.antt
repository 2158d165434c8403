-- What is carried, thing by thing.
use Rattle.std.proofs.Common.{◌≡◌, inl, inr, ℕ, zero, suc, min, ◌+◌, ◌-◌, ◌*◌, ◌%◌, ◌^◌, ◌<◌, ◌≤◌, Bool, true, false}
use Rattle.std.proofs.Common.{List, [], ◌∷◌, ◌++◌, length, get_or, take, map, cond, ◌==◌, ◌&&◌, nat_lt, if◌then◌else◌}
use Rattle.std.proofs.Common.{refl, sym, ◌∙◌, ap, subst, append-nil, arith}
use Rattle.std.specs.Int.{bit_at}
use Rattle.std.specs.Prelude.{bit_and}
use Rattle.std.proofs.Math.Pow.{pow_mono}
use Rattle.std.proofs.lemmas.Nat.Bits.{bit_at_and, bit_at_ones, bit_at_ones_above, bit_at-lt}
use Rattle.std.specs.List.{filter}
use Rattle.std.proofs.lemmas.List.Elements.{filter_more}
use Rattle.std.proofs.lemmas.List.{map-append}
use Rattle.std.proofs.lemmas.Nat.{and_le_l}
use Rattle.site_types.specs.declared.retained.Retained.{Retained}
use Rattle.site_types.specs.declared.change.Change.{Change}
use Rattle.site_types.specs.Bits.{has_bit}
use Rattle.site_types.specs.Carry.{carried_delays}
use Rattle.site_types.specs.Changes.{changed, changed_by}
use Rattle.site_types.proofs.Changes.{changed_by-append}
use Rattle.site_types.proofs.Done.{lt_tells}
use Rattle.site_types.proofs.Masks.{mask_from_bits}

-- the changes of one thing more
changed_more : {X : Type 0} (change : X → Change) (test : X → Bool) (xs : List X) (i : ℕ) (d : X) (kept : Retained) → i < length xs
    → changed_by (map change (filter test (take (i + 1) xs))) kept
    ≡ (if test (get_or xs i d) then changed (change (get_or xs i d)) (changed_by (map change (filter test (take i xs))) kept) else changed_by
    (map change (filter test (take i xs))) kept)
changed_more {X = X} change test xs i d kept small =
    ap (λ ys. changed_by (map change ys) kept) (filter_more test xs i d small) ∙ last (test (get_or xs i d)) (get_or xs i d) (filter test (take i xs))
  where
    last : (b : Bool) (y : X) (ys : List X)
        → changed_by (map change (ys ++ cond b (y ∷ []) [])) kept
        ≡ (if b then changed (change y) (changed_by (map change ys) kept) else changed_by (map change ys) kept)
    last true y ys = ap (λ cs. changed_by cs kept) (map-append change ys (y ∷ [])) ∙ changed_by-append (map change ys) (change y ∷ []) kept
    last false y ys = ap (λ zs. changed_by (map change zs) kept) (append-nil ys)

-- after a thing that is carried, and after one that is not
pub carried_on : {X : Type 0} (change : X → Change) (test : X → Bool) (ys xs : List X) (i : ℕ) (x : X) (initial was new : Retained) → ys ≡ xs
    → i < length ys → x ≡ get_or ys i x → test x ≡ true
    → was ≡ changed_by (map change (filter test (take i xs))) initial → new ≡ changed (change x) was
    → new ≡ changed_by (map change (filter test (take (i + 1) xs))) initial
carried_on change test ys xs i x initial was new e small is yes' before step =
    let there : x ≡ get_or xs i x = is ∙ ap (λ zs. get_or zs i x) e in
    let old = changed_by (map change (filter test (take i xs))) initial in
    step ∙ ap (changed (change x)) before
    ∙ sym (
    changed_more change test xs i x initial (subst (λ zs. i < length zs) e small)
    ∙ ap (λ y. if test y then changed (change y) old else old) (sym there)
    ∙ ap (λ b. if b then changed (change x) old else old) yes'
    )

pub carried_off : {X : Type 0} (change : X → Change) (test : X → Bool) (ys xs : List X) (i : ℕ) (x : X) (initial was : Retained) → ys ≡ xs
    → i < length ys → x ≡ get_or ys i x → test x ≡ false
    → was ≡ changed_by (map change (filter test (take i xs))) initial → was ≡ changed_by (map change (filter test (take (i + 1) xs))) initial
carried_off change test ys xs i x initial was e small is no' before =
    let there : x ≡ get_or xs i x = is ∙ ap (λ zs. get_or zs i x) e in
    let old = changed_by (map change (filter test (take i xs))) initial in
    before
    ∙ sym (
    changed_more change test xs i x initial (subst (λ zs. i < length zs) e small)
    ∙ ap (λ y. if test y then changed (change y) old else old) (sym there)
    ∙ ap (λ b. if b then changed (change x) old else old) no'
    )

flag_and : (b : Bool) (m n : ℕ) → m < 2 → n ≡ (if b then 1 else 0) → (min m n == 1) ≡ (b && (m == 1))
flag_and true zero n small e = rw e refl
flag_and true (suc zero) n small e = rw e refl
flag_and true (suc (suc m)) n small e = absurd (omega (arith, small))
flag_and false m n small e = rw e (let z : min m 0 ≡ 0 = omega arith in rw z refl)

low_bit : (panels k : ℕ) → bit_at (2 ^ panels - 1) k ≡ (if nat_lt k panels then 1 else 0)
low_bit panels k = elim (lt_tells k panels) [
  | inl within ↦ rw within.0 (bit_at_ones panels k within.1)
  | inr beyond ↦ rw beyond.0 (bit_at_ones_above panels k beyond.1)
]

low_fits : (panels : ℕ) → panels ≤ 8 → 1 * 2 ^ panels % 65536 ≡ 2 ^ panels
low_fits panels le = let one : 2 ^ panels ≤ 2 ^ 8 = pow_mono le in grind (arith, one)

-- the lowest bits of a mask
pub delays_carried : (panels delays_off : ℕ) → panels ≤ 8 → delays_off < 2 ^ 8
    → bit_and delays_off (1 * 2 ^ panels % 65536 - 1) ≡ carried_delays panels delays_off
delays_carried panels delays_off le below =
    ap (λ m. bit_and delays_off (m - 1)) (low_fits panels le)
    ∙ mask_from_bits 8 (bit_and delays_off (2 ^ panels - 1)) (λ k. nat_lt k panels && has_bit delays_off k)
    (let le' = and_le_l delays_off (2 ^ panels - 1) in omega (arith, le', below))
    (λ k small. ap (λ n. n == 1) (bit_at_and delays_off (2 ^ panels - 1) k) ∙ flag_and (nat_lt k panels) (bit_at delays_off k)
    (bit_at (2 ^ panels - 1) k) (bit_at-lt delays_off k) (low_bit panels k))

-- four lists of changes, one after another
pub changed_in_turn : (a b c d : List Change) (kept one two three four : Retained) → one ≡ changed_by a kept → two ≡ changed_by b one
    → three ≡ changed_by c two → four ≡ changed_by d three → four ≡ changed_by (a ++ b ++ c ++ d) kept
changed_in_turn a b c d kept one two three four e f g h =
    h ∙ ap (changed_by d) (g ∙ ap (changed_by c) (f ∙ ap (changed_by b) e))
    ∙ sym (changed_by-append (a ++ b ++ c) d kept ∙ ap (changed_by d) (changed_by-append (a ++ b) c kept ∙ ap (changed_by c) (changed_by-append a b kept)))
