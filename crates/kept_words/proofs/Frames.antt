-- A frame, taken word by word.
use Rattle.std.proofs.Common.{◌≡◌, ℕ, ◌+◌, ◌*◌, ◌-◌, ◌≤◌, ◌==◌, ◌&&◌, not, List, true, false, slice_index_or, length, slice_set, if◌then◌else◌, refl, sym, ◌∙◌, ap, arith, inl, inr}
use Rattle.std.proofs.lemmas.Bool.{cases_eq, eq-eqb, ne_eqb}
use Rattle.std.proofs.lemmas.Grind.{get_or-set_at}
use Rattle.std.proofs.lemmas.List.{get_or-set_other}
use Rattle.tick_units.specs.declared.tick.Tick.{Tick}
use Rattle.site_types.specs.declared.word.Word.{Word}
use Rattle.site_types.specs.Words.{empty_word}
use Rattle.panel_links.specs.declared.frame.Frame.{Frame}
use Rattle.panel_links.specs.Kept.{newest}
use Rattle.panel_links.proofs.Places.{received}
use Rattle.kept_words.specs.Arrivals.{framed_word, has_word_of}

-- what is kept of a panel after a frame was taken, its own word apart
abbrev pub kept_after_frame : ℕ → ℕ → Frame → Word → Word
kept_after_frame panel source frame kept =
    if source == panel then kept else if has_word_of source frame then newest kept (framed_word source frame) else kept

module _ (panel source : ℕ) (first : 1 ≤ source) where
  -- one of the words
  abbrev pub TakesOne : ℕ → Word → Word → Word → Type 0
  TakesOne of word old new = new ≡ (if not (of == panel) && (source == of) then newest old word else old)

  -- another panel's word is taken as it comes
  of_another : (of : ℕ) (word old new : Word) → (source ≡ panel → ⊥) → TakesOne of word old new → new ≡ (if source == of then newest old word else old)
  of_another of word old new apart e =
      e ∙ elim (cases_eq source of) [
        | inl same ↦ (let test : (of == panel) ≡ false = ne_eqb of panel (λ p. apart (same ∙ p)) in rw test refl)
        | inr other ↦ (let test : (source == of) ≡ false = ne_eqb source of other in
            rw test (elim (not (of == panel)) as (λ b. (if b && false then newest old word else old) ≡ old) [ true ↦ refl | false ↦ refl ]))
      ]

  -- the panel's own isn't
  of_itself : (of : ℕ) (word old new : Word) → source ≡ panel → TakesOne of word old new → new ≡ old
  of_itself of word old new same e =
      e ∙ elim (cases_eq source of) [
        | inl here ↦ (let test : (of == panel) ≡ true = eq-eqb of panel (sym here ∙ same) in rw test refl)
        | inr other ↦ (let test : (source == of) ≡ false = ne_eqb source of other in
            rw test (elim (not (of == panel)) as (λ b. (if b && false then newest old word else old) ≡ old) [ true ↦ refl | false ↦ refl ]))
      ]

  pub frame_taken : (frame : Frame) (k0 k1 k2 k3 k4 : Word)
      → TakesOne (4 * frame.group + 1) (slice_index_or frame.words 0 empty_word) k0 k1
      → TakesOne (4 * frame.group + 1 + 1) (slice_index_or frame.words 1 empty_word) k1 k2
      → TakesOne (4 * frame.group + 1 + 2) (slice_index_or frame.words 2 empty_word) k2 k3
      → TakesOne (4 * frame.group + 1 + 3) (slice_index_or frame.words 3 empty_word) k3 k4
      → k4 ≡ kept_after_frame panel source frame k0
  frame_taken frame k0 k1 k2 k3 k4 e1 e2 e3 e4 =
      elim (cases_eq source panel) [
        | inl same ↦ (let test : (source == panel) ≡ true = eq-eqb source panel same in
            rw test (of_itself _ _ k3 k4 same e4 ∙ of_itself _ _ k2 k3 same e3 ∙ of_itself _ _ k1 k2 same e2 ∙ of_itself _ _ k0 k1 same e1))
        | inr apart ↦ (let test : (source == panel) ≡ false = ne_eqb source panel apart in
            rw test (received 0 0 source frame.group frame.words k0 k1 k2 k3 k4 first
            (of_another _ _ k0 k1 apart e1) (of_another _ _ k1 k2 apart e2) (of_another _ _ k2 k3 apart e3) (of_another _ _ k3 k4 apart e4)))
      ]

-- the tick in which a frame of a panel came is put at the panel's place
pub tick_set : (came : List Tick) (from sender : ℕ) (now zero : Tick) → length came ≡ 8 → 1 ≤ from → from ≤ 8 → 1 ≤ sender
    → (slice_index_or (slice_set came (from - 1) now) (sender - 1) zero).0 ≡ (if from == sender then now.0 else (slice_index_or came (sender - 1) zero).0)
tick_set came from sender now zero long low high first =
    elim (cases_eq from sender) [
      | inl same ↦
          (let there = get_or-set_at came (from - 1) (sender - 1) now zero (omega arith) (omega arith) in
          let test : (from == sender) ≡ true = eq-eqb from sender same in
          rw test (ap (λ (t : Tick). t.0) there))
      | inr other ↦
          (let there = get_or-set_other came (from - 1) (sender - 1) now zero (λ e. other (omega arith)) in
          let test : (from == sender) ≡ false = ne_eqb from sender other in
          rw test (ap (λ (t : Tick). t.0) there))
    ]
