-- No marker is true where the words of the values, joined, are 0, and only there.
use Rattle.std.proofs.Common.{◌≡◌, ◌↔◌, ◌≤◌, ◌<◌, ◌+◌, ◌*◌, ◌^◌, inl, inr, ℕ, zero, suc, List, nat_eq, true, false, length, sym, ap, ◌∙◌, ◌/◌, ◌%◌, arith}
use Rattle.std.specs.Prelude.{IsTrue, slice_index_or}
use Rattle.std.specs.Int.Bits.{bit_or, or_zero_r}
use Rattle.std.proofs.lemmas.Bool.{cases_lt, eqb-true}
use Rattle.std.proofs.lemmas.Bool.Decides.{eqb_tells}
use Rattle.std.proofs.lemmas.List.{get_or_past}
use Rattle.std.proofs.lemmas.Nat.{div-mul-add, le_or_l, le_or_r, mod-mul-add}
use Rattle.site_types.specs.Bits.{has_bit}
use Rattle.site_types.proofs.Masks.{has_bit-zero, mask_empty}
use Rattle.marker_table.specs.declared.values.Values.{Values}
use Rattle.marker_table.specs.Equations.{values_of}

-- the first words joined, so many and one more
abbrev joined : List ℕ → ℕ → ℕ
joined words zero = slice_index_or words 0 0
joined words (suc k) = bit_or (joined words k) (slice_index_or words (suc k) 0)

-- where those joined are 0, each of them is
none_within : (words : List ℕ) (last k : ℕ) → joined words last ≡ 0 → k ≤ last → slice_index_or words k 0 ≡ 0
none_within words zero zero none order = none
none_within words zero (suc k) none order = absurd (omega (arith, order))
none_within words (suc last) k none order = elim (eqb_tells k (suc last)) [
  | inl here ↦
      (let this = le_or_r (joined words last) (slice_index_or words (suc last) 0) in
      ap (λ n. slice_index_or words n 0) here.1 ∙ omega (arith, this, none))
  | inr before ↦
      (let rest = le_or_l (joined words last) (slice_index_or words (suc last) 0) in
      let apart = before.1 in
      none_within words last k (omega (arith, rest, none)) (omega (arith, order, apart)))
]

none_true : (values : Values) → length values.words ≡ 8 → nat_eq (joined values.words 7) 0 ≡ true → (marker : ℕ) → values_of values marker ≡ false
none_true values size none marker =
    ap (λ word. has_bit word (marker % 32)) (word (marker / 32)) ∙ has_bit-zero (marker % 32)
  where
    word : (k : ℕ) → slice_index_or values.words k 0 ≡ 0
    word k = elim (cases_lt k 8) [
      | inl low ↦ none_within values.words 7 k (eqb-true (joined values.words 7) 0 none) (omega (arith, low))
      | inr past ↦ get_or_past values.words k 0 (omega (arith, size, past))
    ]

-- where no marker is true, the first words joined are 0, since each of them is
joined_empty : (values : Values) (last : ℕ) → ((k : ℕ) → slice_index_or values.words k 0 < 2 ^ 32)
    → ((marker : ℕ) → values_of values marker ≡ false) → joined values.words last ≡ 0
joined_empty values last fits none = go last
  where
    word : (k : ℕ) → slice_index_or values.words k 0 ≡ 0
    word k = mask_empty 32 (slice_index_or values.words k 0) (fits k) (λ bit small.
        ap (λ n. has_bit (slice_index_or values.words n 0) bit) (sym (div-mul-add k 32 bit small))
        ∙ ap (has_bit (slice_index_or values.words ((k * 32 + bit) / 32) 0)) (sym (mod-mul-add k 32 bit small))
        ∙ none (k * 32 + bit))

    go : (k : ℕ) → joined values.words k ≡ 0
    go zero = word 0
    go (suc k) = ap (λ rest. bit_or rest (slice_index_or values.words (suc k) 0)) (go k)
        ∙ ap (bit_or 0) (word (suc k)) ∙ or_zero_r 0

pub is_none_exact : (values : Values) → length values.words ≡ 8 → ((k : ℕ) → slice_index_or values.words k 0 < 2 ^ 32)
    → IsTrue (nat_eq (joined values.words 7) 0) ↔ ((marker : ℕ) → values_of values marker ≡ false)
is_none_exact values size fits =
    (none_true values size, λ none. ap (λ n. nat_eq n 0) (joined_empty values 7 fits none))
