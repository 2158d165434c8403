-- Where all words are fresh, no panel is silent.
use Rattle.std.proofs.Common.{◌≡◌, ◌∙◌, ◌+◌, ◌-◌, ◌≤◌, ℕ, List, [], length, nat_le, nat_lt, false, inl, inr, sym, subst, arith}
use Rattle.std.proofs.Common.{slice_index, slice_index_or, slice_set}
use Rattle.std.proofs.lemmas.Bool.{and_left, and_right, cases_eq, le-ltb}
use Rattle.std.proofs.lemmas.Bool.Decides.{leb_tells}
use Rattle.std.proofs.lemmas.Grind.{get_or-set_at}
use Rattle.std.proofs.lemmas.List.{get_or-set_other}
use Rattle.site_types.specs.declared.word.Word.{Word}
use Rattle.site_types.specs.Bits.{mask_of}
use Rattle.site_types.specs.Words.{empty_word}
use Rattle.site_types.proofs.Masks.{has_bit-zero, mask_from_bits}
use Rattle.panel_links.specs.Words.{Call}
use Rattle.panel_links.specs.Kept.{NoneOlder, kept_word}
use Rattle.panel_links.specs.Stands.{is_silent}

module _ (panels at : ℕ) (calls : List Call) (now limit : ℕ)
    (fresh : (of : ℕ) → 1 ≤ of → of ≤ panels → now - limit ≤ (kept_word panels of at calls).stamp.0) where
  not_silent : (of : ℕ) → 1 ≤ of → is_silent panels at calls now limit of ≡ false
  not_silent of first =
      elim (leb_tells of panels) [
        | inl t ↦ (let late = fresh of first t.1 in
            and_right (nat_le of panels) (nat_lt limit (now - (kept_word panels of at calls).stamp.0))
            (le-ltb limit (now - (kept_word panels of at calls).stamp.0) (omega (arith, late))))
        | inr t ↦ and_left (nat_le of panels) (nat_lt limit (now - (kept_word panels of at calls).stamp.0)) t.0
      ]

  pub none_silent : 0 ≡ mask_of 8 (λ k. is_silent panels at calls now limit (k + 1))
  none_silent =
      mask_from_bits 8 0 (λ k. is_silent panels at calls now limit (k + 1)) (omega arith)
      (λ k small. has_bit-zero k ∙ sym (not_silent (k + 1) (omega arith)))

-- where a panel's tick is one that none of its words is older than, and all others stay
pub oldest_set : (panels : ℕ) (words : List (List Word)) (oldest : List ℕ) (panel tick : ℕ) → length oldest ≡ 8 → panel ≤ 8 → 1 ≤ panel
    → ((from : ℕ) → (1 ≤ from) × (from ≤ panels) → tick ≤ (slice_index_or (slice_index_or words (panel - 1) []) (from - 1) empty_word).stamp.0)
    → NoneOlder panels words oldest → NoneOlder panels words (slice_set oldest (panel - 1) tick)
oldest_set panels words oldest panel tick long last first now old at from ha hf = elim (cases_eq at panel) [
  | inl same ↦
      (let here : slice_index (slice_set oldest (panel - 1) tick) (at - 1) ≡ tick =
      get_or-set_at oldest (panel - 1) (at - 1) tick 0 (omega (arith, same)) (omega (arith, long, last, first)) in
      subst (λ t. t ≤ (slice_index_or (slice_index_or words (at - 1) []) (from - 1) empty_word).stamp.0) (sym here)
      (subst (λ p. tick ≤ (slice_index_or (slice_index_or words (p - 1) []) (from - 1) empty_word).stamp.0) (sym same) (now from hf)))
  | inr apart ↦
      (let there : slice_index (slice_set oldest (panel - 1) tick) (at - 1) ≡ slice_index oldest (at - 1) =
      get_or-set_other oldest (panel - 1) (at - 1) tick 0 (λ e. apart (omega (arith, e, ha.0, first))) in
      subst (λ t. t ≤ (slice_index_or (slice_index_or words (at - 1) []) (from - 1) empty_word).stamp.0) (sym there) (old at from ha hf))
]
