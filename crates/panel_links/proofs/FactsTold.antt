-- Facts that follow the words of a table.
use Rattle.std.proofs.Common.{◌≡◌, ◌∙◌, ℕ, zero, suc, ◌-◌, ◌≤◌, ◌<◌, ◌==◌, List, [], length, replicate, Bool, true, false, if◌then◌else◌, inl, inr}
use Rattle.std.proofs.Common.{slice_index, slice_index_or, slice_set, refl, sym, ap, subst, arith}
use Rattle.std.proofs.lemmas.Bool.{and_left, and_right, cases_eq, eq-eqb, ne_eqb}
use Rattle.std.proofs.lemmas.Grind.{get_or-set_at}
use Rattle.std.proofs.lemmas.List.{get_or-set_other, length-set}
use Rattle.tick_units.specs.declared.Tick.{Tick}
use Rattle.site_types.specs.declared.word.Word.{Word}
use Rattle.site_types.specs.Bits.{has_bit}
use Rattle.site_types.specs.Words.{empty_word}
use Rattle.site_types.proofs.Masks.{has_bit-zero}
use Rattle.marker_table.specs.declared.facts.Facts.{Facts}
use Rattle.panel_links.specs.Kept.{NoneOlder}
use Rattle.panel_links.specs.Told.{AreOfEight, HaveEight, KeepOthers, NoneBeyond, TellTable, TellWord, TellsSame, empty_facts, table_word}
use Rattle.panel_links.proofs.Places.{table_set}

-- ---- at the start

same_everywhere : {X : Type 0} (n k : ℕ) (x : X) → slice_index_or (replicate n x) k x ≡ x
same_everywhere zero k x = refl
same_everywhere (suc n) zero x = refl
same_everywhere (suc n) (suc k) x = same_everywhere n k x

row_there : (n k : ℕ) (row : List Word) → k < n → slice_index_or (replicate n row) k [] ≡ row
row_there zero k row small = absurd (omega arith)
row_there (suc n) zero row small = refl
row_there (suc n) (suc k) row small = row_there n k row (omega (arith, small))

word_of : (a m r f : ℕ) (b : Bool) (s : Tick) → s ≡ record { 0 = 0 } → a ≡ 0 → m ≡ 0 → r ≡ 0 → f ≡ 0 → b ≡ false
    → ◌≡◌ {A = Word} (record { stamp = s; alarm = a; manual = m; released = r; first = f; fault = b }) empty_word
word_of a m r f b s e1 e2 e3 e4 e5 e6 = cc

tick_of : (n : ℕ) → n ≡ 0 → ◌≡◌ {A = Tick} (record { 0 = n }) (record { 0 = 0 })
tick_of n e = cc

-- a word without a bit
pub no_word : (w : Word) → (w.stamp.0 ≡ 0) × ((w.alarm ≡ 0) × ((w.manual ≡ 0) × ((w.released ≡ 0) × ((w.first ≡ 0) × (w.fault ≡ false)))))
    → w ≡ empty_word
no_word w e = word_of w.alarm w.manual w.released w.first w.fault w.stamp (tick_of w.stamp.0 e.0) e.1.0 e.1.1.0 e.1.1.1.0 e.1.1.1.1.0 e.1.1.1.1.1

pub none_kept : (word : Word) → word ≡ empty_word → (at of : ℕ) → 1 ≤ at → at ≤ 8
    → slice_index_or (slice_index_or (replicate 8 (replicate 8 word)) (at - 1) []) (of - 1) empty_word ≡ empty_word
none_kept word is at of low high =
    ap (λ (w : Word). slice_index_or (slice_index_or (replicate 8 (replicate 8 w)) (at - 1) []) (of - 1) empty_word) is
    ∙ ap (λ (row : List Word). slice_index_or row (of - 1) empty_word) (row_there 8 (at - 1) (replicate 8 empty_word) (omega (arith, low, high)))
    ∙ same_everywhere 8 (of - 1) empty_word

facts_there : (n k : ℕ) (facts : Facts) → k < n → slice_index_or (replicate n facts) k empty_facts ≡ facts
facts_there zero k facts small = absurd (omega arith)
facts_there (suc n) zero facts small = refl
facts_there (suc n) (suc k) facts small = facts_there n k facts (omega (arith, small))

pub none_beyond_first : (panels : ℕ) (word : Word) → word ≡ empty_word → panels ≤ 8 → NoneBeyond panels (replicate 8 (replicate 8 word))
none_beyond_first panels word is few at of ha ho = none_kept word is at of ha.0 (omega (arith, ha.1, few))

pub told_first : (panels : ℕ) (word : Word) (facts : Facts) → word ≡ empty_word → facts.zones ≡ replicate 8 0 → facts.manual ≡ replicate 8 0
    → facts.faults ≡ 0 → panels ≤ 8 → TellTable panels (replicate 8 (replicate 8 word)) (replicate 8 facts)
told_first panels word facts is zones manual faults few at of ha ho =
    subst (λ (w : Word). TellWord of w (slice_index_or (replicate 8 facts) (at - 1) empty_facts))
    (sym (none_kept word is at of ha.0 (omega (arith, ha.1, few))))
    (subst (λ (f : Facts). TellWord of empty_word f) (sym (facts_there 8 (at - 1) facts (omega (arith, ha.0, ha.1, few)))) (record {
      zones = ap (λ (xs : List ℕ). slice_index xs (of - 1)) zones ∙ same_everywhere 8 (of - 1) 0;
      manual = ap (λ (xs : List ℕ). slice_index xs (of - 1)) manual ∙ same_everywhere 8 (of - 1) 0;
      fault = ap (λ mask. has_bit mask (of - 1)) faults ∙ has_bit-zero (of - 1);
    }))

pub eight_first : (panels : ℕ) (facts : Facts) → panels ≤ 8 → AreOfEight facts → HaveEight panels (replicate 8 facts)
eight_first panels facts few are at ha =
    subst (λ (f : Facts). AreOfEight f) (sym (facts_there 8 (at - 1) facts (omega (arith, ha.0, ha.1, few)))) are

pub eight_then : (panels at : ℕ) (facts : List Facts) (mended : Facts) → length facts ≡ 8 → 1 ≤ at → at ≤ 8 → AreOfEight mended
    → HaveEight panels facts → HaveEight panels (slice_set facts (at - 1) mended)
eight_then panels at facts mended size at1 at8 are each a ha = elim (cases_eq a at) [
  | inl same ↦
      subst (λ (f : Facts). AreOfEight f)
      (sym (get_or-set_at facts (at - 1) (a - 1) mended empty_facts (omega (arith, same)) (omega (arith, size, at8, at1)))) are
  | inr other ↦
      subst (λ (f : Facts). AreOfEight f)
      (sym (get_or-set_other facts (at - 1) (a - 1) mended empty_facts (λ e. other (omega (arith, e, ha.0, at1))))) (each a ha)
]

-- ---- where a word was written

module _ (words : List (List Word)) (at of : ℕ) (word : Word) (long : length words ≡ 8) (wide : length (slice_index_or words (at - 1) []) ≡ 8)
    (at1 : 1 ≤ at) (at8 : at ≤ 8) (of1 : 1 ≤ of) (of8 : of ≤ 8) where
  abbrev written : List (List Word)
  written = slice_set words (at - 1) (slice_set (slice_index_or words (at - 1) []) (of - 1) word)

  apart : (a o : ℕ) → 1 ≤ a → 1 ≤ o → (a ≡ at → ⊥) → table_word written a o ≡ table_word words a o
  apart a o a1 o1 other =
      table_set words at of a o word long wide at1 at8 of1 of8 a1 o1
      ∙ ap (λ b. if b then word else table_word words a o) (and_left (a == at) (o == of) (ne_eqb a at other))

  beside : (a o : ℕ) → 1 ≤ a → 1 ≤ o → (o ≡ of → ⊥) → table_word written a o ≡ table_word words a o
  beside a o a1 o1 other =
      table_set words at of a o word long wide at1 at8 of1 of8 a1 o1
      ∙ ap (λ b. if b then word else table_word words a o) (and_right (a == at) (o == of) (ne_eqb o of other))

  here : (a o : ℕ) → 1 ≤ a → 1 ≤ o → a ≡ at → o ≡ of → table_word written a o ≡ word
  here a o a1 o1 same is =
      let p : (a == at) ≡ true = eq-eqb a at same in
      let q : (o == of) ≡ true = eq-eqb o of is in
      rw (p, q) at (table_set words at of a o word long wide at1 at8 of1 of8 a1 o1)

  pub wide_then : ((k : ℕ) → k < 8 → length (slice_index_or words k []) ≡ 8) → (k : ℕ) → k < 8 → length (slice_index_or written k []) ≡ 8
  wide_then each k small = elim (cases_eq k (at - 1)) [
    | inl same ↦
        ap (λ (row : List Word). length row)
        (get_or-set_at words (at - 1) k (slice_set (slice_index_or words (at - 1) []) (of - 1) word) [] same (omega (arith, long, at1, at8)))
        ∙ length-set (slice_index_or words (at - 1) []) (of - 1) word ∙ wide
    | inr other ↦
        ap (λ (row : List Word). length row)
        (get_or-set_other words (at - 1) k (slice_set (slice_index_or words (at - 1) []) (of - 1) word) [] other) ∙ each k small
  ]

  pub none_beyond_then : (panels : ℕ) → of ≤ panels → NoneBeyond panels words → NoneBeyond panels written
  none_beyond_then panels within none a o ha ho =
      beside a o ha.0 (omega (arith, ho.0)) (λ e. absurd (omega (arith, e, within, ho.0))) ∙ none a o ha ho

  pub none_older_then : (panels : ℕ) (oldest : List ℕ) → slice_index oldest (at - 1) ≤ word.stamp.0 → NoneOlder panels words oldest
      → NoneOlder panels written oldest
  none_older_then panels oldest late none a o ha ho = elim (cases_eq a at) [
    | inr other ↦ subst (λ (w : Word). slice_index oldest (a - 1) ≤ w.stamp.0) (sym (apart a o ha.0 ho.0 other)) (none a o ha ho)
    | inl same ↦ elim (cases_eq o of) [
      | inr other ↦ subst (λ (w : Word). slice_index oldest (a - 1) ≤ w.stamp.0) (sym (beside a o ha.0 ho.0 other)) (none a o ha ho)
      | inl is ↦
          subst (λ (w : Word). slice_index oldest (a - 1) ≤ w.stamp.0) (sym (here a o ha.0 ho.0 same is))
          (subst (λ p. slice_index oldest (p - 1) ≤ word.stamp.0) (sym same) late)
    ]
  ]

  -- facts follow that were mended by the word
  pub told_by_word : (panels : ℕ) (facts : List Facts) (mended : Facts) → length facts ≡ 8 → TellWord of word mended
      → KeepOthers of (slice_index_or facts (at - 1) empty_facts) mended → TellTable panels words facts
      → TellTable panels written (slice_set facts (at - 1) mended)
  told_by_word panels facts mended size this others told a o ha ho = elim (cases_eq a at) [
    | inr other ↦
        (let row : slice_index_or (slice_set facts (at - 1) mended) (a - 1) empty_facts ≡ slice_index_or facts (a - 1) empty_facts =
        get_or-set_other facts (at - 1) (a - 1) mended empty_facts (λ e. other (omega (arith, e, ha.0, at1))) in
        subst (λ (f : Facts). TellWord o (table_word written a o) f) (sym row)
        (subst (λ (w : Word). TellWord o w (slice_index_or facts (a - 1) empty_facts)) (sym (apart a o ha.0 ho.0 other)) (told a o ha ho)))
    | inl same ↦
        (let row : slice_index_or (slice_set facts (at - 1) mended) (a - 1) empty_facts ≡ mended =
        get_or-set_at facts (at - 1) (a - 1) mended empty_facts (omega (arith, same)) (omega (arith, size, at8, at1)) in
        subst (λ (f : Facts). TellWord o (table_word written a o) f) (sym row) (elim (cases_eq o of) [
          | inr other ↦
              subst (λ (w : Word). TellWord o w mended) (sym (beside a o ha.0 ho.0 other))
              (others o (table_word words a o) ho.0 ho.1 other
              (subst (λ p. TellWord o (table_word words a o) (slice_index_or facts (p - 1) empty_facts)) same (told a o ha ho)))
          | inl is ↦
              subst (λ (w : Word). TellWord o w mended) (sym (here a o ha.0 ho.0 same is)) (subst (λ p. TellWord p word mended) (sym is) this)
        ]))
  ]

  -- facts stay where the word tells what was told before
  pub told_still : (panels : ℕ) (facts : List Facts) → TellsSame word (table_word words at of) → TellTable panels words facts → TellTable panels written facts
  told_still panels facts alike told a o ha ho = elim (cases_eq a at) [
    | inr other ↦
        subst (λ (w : Word). TellWord o w (slice_index_or facts (a - 1) empty_facts)) (sym (apart a o ha.0 ho.0 other)) (told a o ha ho)
    | inl same ↦ elim (cases_eq o of) [
      | inr other ↦
          subst (λ (w : Word). TellWord o w (slice_index_or facts (a - 1) empty_facts)) (sym (beside a o ha.0 ho.0 other)) (told a o ha ho)
      | inl is ↦
          (let before : TellWord o (table_word words at of) (slice_index_or facts (a - 1) empty_facts) =
          subst (λ p. TellWord o (table_word words p of) (slice_index_or facts (a - 1) empty_facts)) same
          (subst (λ p. TellWord o (table_word words a p) (slice_index_or facts (a - 1) empty_facts)) is (told a o ha ho)) in
          subst (λ (w : Word). TellWord o w (slice_index_or facts (a - 1) empty_facts)) (sym (here a o ha.0 ho.0 same is))
          (record {
            zones = before.zones ∙ sym (ap (λ (w : Word). w.released) alike);
            manual = before.manual ∙ sym (ap (λ (w : Word). w.manual) alike);
            fault = before.fault ∙ sym (ap (λ (w : Word). w.fault) alike);
          }))
    ]
  ]
