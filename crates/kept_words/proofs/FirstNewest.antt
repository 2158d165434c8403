-- The word that is kept of another panel is the first of the newest that came.
use Rattle.std.proofs.Common.{◌≡◌, ◌<◌, ◌≤◌, ℕ, zero, suc, List, [], ◌∷◌, ◌++◌, length, Some, slice_get, nat_lt, refl, sym, ap, subst, arith, inl, inr}
use Rattle.std.proofs.lemmas.Bool.{cases_Bool, ltb-false, ltb-true, ne_eqb}
use Rattle.site_types.specs.declared.word.Word.{Word}
use Rattle.site_types.specs.Words.{empty_word}
use Rattle.panel_links.specs.Kept.{newest}
use Rattle.kept_words.specs.Arrivals.{Came, Made, framed_word, has_word_of, word_kept}
use Rattle.kept_words.specs.Newest.{IsFirstNewest, KeptIsFirstNewest, words_that_came}

-- a word that stands in some with one more behind them
pub data Where (words : List Word) (last : Word) (k : ℕ) (w : Word) : Type 0 where
  among : k < length words → slice_get words k ≡ Some w → Where words last k w
  behind : k ≡ length words → w ≡ last → Where words last k w

where_is : (words : List Word) (last : Word) (k : ℕ) (w : Word) → slice_get (words ++ last ∷ []) k ≡ Some w → Where words last k w
where_is [] last zero w is = behind refl cc
where_is [] last (suc k) w is = absurd (let none = is in cc)
where_is (x ∷ words) last zero w is = among (omega arith) is
where_is (x ∷ words) last (suc k) w is = go (where_is words last k w is)
  where
    go : Where words last k w → Where (x ∷ words) last (suc k) w
    go (among l at) = among (omega (arith, l)) at
    go (behind e same) = behind (ap suc e) same

still_there : (words : List Word) (last : Word) (k : ℕ) (w : Word) → slice_get words k ≡ Some w → slice_get (words ++ last ∷ []) k ≡ Some w
still_there [] last k w is = cc
still_there (x ∷ words) last zero w is = is
still_there (x ∷ words) last (suc k) w is = still_there words last k w is

the_last : (words : List Word) (last : Word) → slice_get (words ++ last ∷ []) (length words) ≡ Some last
the_last [] last = refl
the_last (x ∷ words) last = the_last words last

got_within : (words : List Word) (k : ℕ) (w : Word) → slice_get words k ≡ Some w → k < length words
got_within [] k w is = cc
got_within (x ∷ words) zero w is = omega arith
got_within (x ∷ words) (suc k) w is = let l = got_within words k w is in omega (arith, l)

-- one word more that isn't newer
stays_first : (words : List Word) (kept last : Word) → last.stamp.0 ≤ kept.stamp.0 → IsFirstNewest words kept
    → IsFirstNewest (words ++ last ∷ []) kept
stays_first words kept last older h = record {
  place = h.place;
  is = still_there words last h.place kept h.is;
  greatest = λ k w is. elim (where_is words last k w is) [
    | among l at ↦ h.greatest k w at
    | behind e same ↦ subst (λ (v : Word). v.stamp.0 ≤ kept.stamp.0) (sym same) older
  ];
  first = λ k w earlier is. elim (where_is words last k w is) [
    | among l at ↦ h.first k w earlier at
    | behind e same ↦ (let within = got_within words h.place kept h.is in absurd (omega (arith, e, within, earlier)))
  ];
}

-- and one that is
becomes_first : (words : List Word) (kept last : Word) → kept.stamp.0 < last.stamp.0 → IsFirstNewest words kept
    → IsFirstNewest (words ++ last ∷ []) last
becomes_first words kept last newer h = record {
  place = length words;
  is = the_last words last;
  greatest = λ k w is. elim (where_is words last k w is) [
    | among l at ↦ (let low = h.greatest k w at in omega (arith, low, newer))
    | behind e same ↦ subst (λ (v : Word). v.stamp.0 ≤ last.stamp.0) (sym same) (omega arith)
  ];
  first = λ k w earlier is. elim (where_is words last k w is) [
    | among l at ↦ (let low = h.greatest k w at in omega (arith, low, newer))
    | behind e same ↦ absurd (omega (arith, e, earlier))
  ];
}

newer_kept : (words : List Word) (kept last : Word) → IsFirstNewest words kept → IsFirstNewest (words ++ last ∷ []) (newest kept last)
newer_kept words kept last h =
    elim (cases_Bool (nat_lt kept.stamp.0 last.stamp.0)) [
      | inl newer ↦ (let l = ltb-true kept.stamp.0 last.stamp.0 newer in rw newer (becomes_first words kept last l h))
      | inr older ↦ (let l = ltb-false kept.stamp.0 last.stamp.0 older in rw older (stays_first words kept last (omega (arith, l)) h))
    ]

nothing_came : IsFirstNewest (empty_word ∷ []) empty_word
nothing_came = record {
  place = 0;
  is = refl;
  greatest = λ k w is. only k w is;
  first = λ k w earlier is. absurd (omega (arith, earlier));
}
  where
    only : (k : ℕ) (w : Word) → slice_get (empty_word ∷ []) k ≡ Some w → w.stamp.0 ≤ 0
    only zero w is = (let same : empty_word ≡ w = cc in subst (λ (v : Word). v.stamp.0 ≤ 0) same (omega arith))
    only (suc k) w is = cc

pub kept_is_first : KeptIsFirstNewest
kept_is_first panel source [] apart = nothing_came
kept_is_first panel source (Came tick frame ∷ before) apart =
    let ih = kept_is_first panel source before apart in
    let other = ne_eqb source panel apart in
    elim (cases_Bool (has_word_of source frame)) [
      | inl has ↦ rw (other, has) (newer_kept (empty_word ∷ words_that_came source before) (word_kept panel source before) (framed_word source frame) ih)
      | inr hasnt ↦ rw (other, hasnt) ih
    ]
kept_is_first panel source (Made own ∷ before) apart =
    let other = ne_eqb source panel apart in
    rw other (kept_is_first panel source before apart)
