-- Words read and written one by one, and four at a time.
use Rattle.std.proofs.Common.{◌≡◌, ℕ, ◌+◌, ◌-◌, ◌*◌, ◌/◌, ◌%◌, ◌≤◌, ◌==◌, ◌&&◌, List, [], length, true, false}
use Rattle.std.proofs.Common.{nat_le, slice_index_or, slice_set, if◌then◌else◌, refl, sym, ◌∙◌, ap, arith, inl, inr}
use Rattle.std.proofs.lemmas.Bool.{and_left, and_right, cases_eq, eq-eqb, le-leb, ne_eqb}
use Rattle.std.proofs.lemmas.Grind.{get_or-set_at}
use Rattle.std.proofs.lemmas.List.{get_or-set_other}
use Rattle.site_types.specs.declared.word.Word.{Word}
use Rattle.site_types.specs.Words.{empty_word}
use Rattle.panel_links.specs.Kept.{newest}
use Rattle.panel_links.specs.Frames.{after_frame, group_words, word_in}

-- a table of words after one was written
pub table_set : (words : List (List Word)) (at of a o : ℕ) (word : Word) → length words ≡ 8 → length (slice_index_or words (at - 1) []) ≡ 8 →
    1 ≤ at → at ≤ 8 → 1 ≤ of → of ≤ 8 → 1 ≤ a → 1 ≤ o →
    slice_index_or (slice_index_or (slice_set words (at - 1) (slice_set (slice_index_or words (at - 1) []) (of - 1) word)) (a - 1) []) (o - 1)
    empty_word
    ≡ (if (a == at) && (o == of) then word else slice_index_or (slice_index_or words (a - 1) []) (o - 1) empty_word)
table_set words at of a o word long wide at1 at8 of1 of8 a1 o1 =
    elim (cases_eq a at) [
      | inl same ↦
          (let row = get_or-set_at words (at - 1) (a - 1) (slice_set (slice_index_or words (at - 1) []) (of - 1) word) [] (omega arith) (omega arith)
          in
          let test : (a == at) ≡ true = eq-eqb a at same in
          elim (cases_eq o of) [
            | inl here ↦ (let cell = get_or-set_at (slice_index_or words (at - 1) []) (of - 1) (o - 1) word empty_word (omega arith) (omega arith) in
                let test2 : (o == of) ≡ true = eq-eqb o of here in
                rw (row, test, test2) cell)
            | inr other ↦
                (let cell = get_or-set_other (slice_index_or words (at - 1) []) (of - 1) (o - 1) word empty_word (λ e. other (omega arith)) in
                let test2 : (o == of) ≡ false = ne_eqb o of other in
                rw (row, test, test2) (cell ∙ ap (λ k. slice_index_or (slice_index_or words (k - 1) []) (o - 1) empty_word) (sym same)))
          ])
      | inr apart ↦
          (let row =
          get_or-set_other words (at - 1) (a - 1) (slice_set (slice_index_or words (at - 1) []) (of - 1) word) [] (λ e. apart (omega arith)) in
          let test : (a == at) ≡ false = ne_eqb a at apart in
          rw (row, test) refl)
    ]

-- one word of a frame after another
module _ (receiver a o : ℕ) where
  step_no : (of : ℕ) (k new w : Word) → new ≡ (if (a == receiver) && (o == of) then newest k w else k) → (o ≡ of → ⊥) → new ≡ k
  step_no of k new w e apart = e ∙ ap (λ b. if b then newest k w else k) (and_right (a == receiver) (o == of) (ne_eqb o of apart))

  step_yes : (of : ℕ) (k new w : Word) → new ≡ (if (a == receiver) && (o == of) then newest k w else k) → a ≡ receiver → o ≡ of → new ≡ newest k w
  step_yes of k new w e same here =
      let p : (a == receiver) ≡ true = eq-eqb a receiver same in
      let q : (o == of) ≡ true = eq-eqb o of here in
      rw (p, q) at e

  step_apart : (of : ℕ) (k new w : Word) → new ≡ (if (a == receiver) && (o == of) then newest k w else k) → (a ≡ receiver → ⊥) → new ≡ k
  step_apart of k new w e apart = e ∙ ap (λ b. if b then newest k w else k) (and_left (a == receiver) (o == of) (ne_eqb a receiver apart))

  in_frame : (group place : ℕ) (words : List Word) (kept new : Word) → a ≡ receiver → (o - 1) / 4 ≡ group → (o - 1) % 4 ≡ place
      → new ≡ newest kept (slice_index_or words place empty_word) → new ≡ after_frame receiver group words a o kept
  in_frame group place words kept new same in_group at e =
      let p : (a == receiver) ≡ true = eq-eqb a receiver same in
      let q : (((o - 1) / 4) == group) ≡ true = eq-eqb ((o - 1) / 4) group in_group in
      rw (p, q, at) e

  out_of_frame : (group : ℕ) (words : List Word) (kept new : Word) → ((o - 1) / 4 ≡ group → ⊥) → new ≡ kept
      → new ≡ after_frame receiver group words a o kept
  out_of_frame group words kept new apart e =
      e ∙ ap (λ b. if b then newest kept (slice_index_or words ((o - 1) % 4) empty_word) else kept)
      (sym (and_right (a == receiver) (((o - 1) / 4) == group) (ne_eqb ((o - 1) / 4) group apart)))

  not_receiver : (group : ℕ) (words : List Word) (kept new : Word) → (a ≡ receiver → ⊥) → new ≡ kept → new ≡ after_frame receiver group words a o kept
  not_receiver group words kept new apart e =
      e ∙ ap (λ b. if b then newest kept (slice_index_or words ((o - 1) % 4) empty_word) else kept)
      (sym (and_left (a == receiver) (((o - 1) / 4) == group) (ne_eqb a receiver apart)))

  -- what is kept after the four words of a frame
  pub received : (group : ℕ) (words : List Word) (k0 k1 k2 k3 k4 : Word) → 1 ≤ o →
      k1 ≡ (if (a == receiver) && (o == 4 * group + 1) then newest k0 (slice_index_or words 0 empty_word) else k0) →
      k2 ≡ (if (a == receiver) && (o == 4 * group + 1 + 1) then newest k1 (slice_index_or words 1 empty_word) else k1) →
      k3 ≡ (if (a == receiver) && (o == 4 * group + 1 + 2) then newest k2 (slice_index_or words 2 empty_word) else k2) →
      k4 ≡ (if (a == receiver) && (o == 4 * group + 1 + 3) then newest k3 (slice_index_or words 3 empty_word) else k3) →
      k4 ≡ after_frame receiver group words a o k0
  received group words k0 k1 k2 k3 k4 first e1 e2 e3 e4 =
      elim (cases_eq a receiver) [
        | inr apart ↦
            not_receiver group words k0 k4 apart (step_apart _ k3 k4 _ e4 apart ∙ step_apart _ k2 k3 _ e3 apart ∙ step_apart _ k1 k2 _ e2 apart ∙
            step_apart _ k0 k1 _ e1 apart)
        | inl same ↦ elim (cases_eq o (4 * group + 1)) [
          | inl h ↦
              in_frame group 0 words k0 k4 same (omega arith) (omega arith)
              (step_no _ k3 k4 _ e4 (λ e. absurd (omega arith)) ∙ step_no _ k2 k3 _ e3 (λ e. absurd (omega arith)) ∙ step_no _ k1 k2 _ e2
              (λ e. absurd (omega arith)) ∙ step_yes _ k0 k1 _ e1 same h)
          | inr n1 ↦ elim (cases_eq o (4 * group + 1 + 1)) [
            | inl h ↦
                in_frame group 1 words k0 k4 same (omega arith) (omega arith)
                (step_no _ k3 k4 _ e4 (λ e. absurd (omega arith)) ∙ step_no _ k2 k3 _ e3 (λ e. absurd (omega arith)) ∙ step_yes _ k1 k2 _ e2 same h ∙
                ap (λ k. newest k (slice_index_or words 1 empty_word)) (step_no _ k0 k1 _ e1 n1))
            | inr n2 ↦ elim (cases_eq o (4 * group + 1 + 2)) [
              | inl h ↦
                  in_frame group 2 words k0 k4 same (omega arith) (omega arith)
                  (step_no _ k3 k4 _ e4 (λ e. absurd (omega arith)) ∙ step_yes _ k2 k3 _ e3 same h ∙ ap
                  (λ k. newest k (slice_index_or words 2 empty_word)) (step_no _ k1 k2 _ e2 n2 ∙ step_no _ k0 k1 _ e1 n1))
              | inr n3 ↦ elim (cases_eq o (4 * group + 1 + 3)) [
                | inl h ↦
                    in_frame group 3 words k0 k4 same (omega arith) (omega arith)
                    (step_yes _ k3 k4 _ e4 same h ∙ ap (λ k. newest k (slice_index_or words 3 empty_word))
                    (step_no _ k2 k3 _ e3 n3 ∙ step_no _ k1 k2 _ e2 n2 ∙ step_no _ k0 k1 _ e1 n1))
                | inr n4 ↦
                    out_of_frame group words k0 k4 (λ e. absurd (omega arith))
                    (step_no _ k3 k4 _ e4 n4 ∙ step_no _ k2 k3 _ e3 n3 ∙ step_no _ k1 k2 _ e2 n2 ∙ step_no _ k0 k1 _ e1 n1)
              ]
            ]
          ]
        ]
      ]

-- the word of a panel in the frame of its group
word_there : (panels group : ℕ) (words : ℕ → Word) (place o : ℕ) → 4 * group + place + 1 ≡ o → o ≤ panels → word_in panels group words place ≡ words o
word_there panels group words place o e within =
    let test : nat_le o panels ≡ true = le-leb o panels within in
    rw (e, test) refl

pub sent_word : (panels group o : ℕ) (words : ℕ → Word) → 1 ≤ o → o ≤ panels → (o - 1) / 4 ≡ group
    → slice_index_or (group_words panels group words) ((o - 1) % 4) empty_word ≡ words o
sent_word panels group o words first within in_group =
    elim (cases_eq ((o - 1) % 4) 0) [
      | inl h ↦ ap (λ k. slice_index_or (group_words panels group words) k empty_word) h ∙ word_there panels group words 0 o (omega arith) within
      | inr n0 ↦ elim (cases_eq ((o - 1) % 4) 1) [
        | inl h ↦ ap (λ k. slice_index_or (group_words panels group words) k empty_word) h ∙ word_there panels group words 1 o (omega arith) within
        | inr n1 ↦ elim (cases_eq ((o - 1) % 4) 2) [
          | inl h ↦ ap (λ k. slice_index_or (group_words panels group words) k empty_word) h ∙ word_there panels group words 2 o (omega arith) within
          | inr n2 ↦
              (let h : (o - 1) % 4 ≡ 3 = omega arith in
              ap (λ k. slice_index_or (group_words panels group words) k empty_word) h ∙ word_there panels group words 3 o (omega arith) within)
        ]
      ]
    ]
