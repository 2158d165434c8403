-- The words that a panel keeps, by the order in which they came.
use Rattle.std.proofs.Common.{◌≡◌, ◌==◌, ◌∙◌, ℕ, Bool, true, false, List, [], ◌∷◌, if◌then◌else◌, refl}
use Rattle.site_types.specs.declared.word.Word.{Word}
use Rattle.site_types.specs.Words.{empty_word}
use Rattle.kept_words.specs.declared.kept_words.KeptWords.{KeptWords}
use Rattle.kept_words.specs.Arrivals.{Arrival, Came, Made, framed_word, has_word_of, word_kept}
use Rattle.kept_words.specs.Stands.{KeepsArrived}
use Rattle.panel_links.specs.declared.frame.Frame.{Frame}
use Rattle.panel_links.specs.Kept.{newest}

-- two lists tell the same where each word and each last frame is the same
module _ (panels panel : ℕ) (words : KeptWords) (rest : List Arrival) where
  -- nothing came, and no word was made
  pub at_first : KeepsArrived panels panel [] words → KeepsArrived panels panel (Made empty_word ∷ []) words
  at_first h = record {
    size = h.size;
    own = h.own;
    words = λ source low high. h.words source low high ∙ same (source == panel);
    came = h.came;
  }
    where
      same : (b : Bool) → empty_word ≡ (if b then empty_word else empty_word)
      same true = refl
      same false = refl

  -- an own word that was made after another takes its place
  pub made_again : (own before : Word) → KeepsArrived panels panel (Made own ∷ Made before ∷ rest) words → KeepsArrived panels panel (Made own ∷ rest) words
  made_again own before h = record {
    size = h.size;
    own = h.own;
    words = λ source low high. h.words source low high ∙ same (source == panel) (word_kept panel source rest);
    came = h.came;
  }
    where
      same : (b : Bool) (other : Word) → (if b then own else if b then before else other) ≡ (if b then own else other)
      same true other = refl
      same false other = refl

  -- whether a frame came before an own word or after it is the same
  pub came_before : (tick : ℕ) (frame : Frame) (own : Word) → KeepsArrived panels panel (Came tick frame ∷ Made own ∷ rest) words
      → KeepsArrived panels panel (Made own ∷ Came tick frame ∷ rest) words
  came_before tick frame own h = record {
    size = h.size;
    own = h.own;
    words = λ source low high.
        h.words source low high ∙ same (source == panel) (has_word_of source frame) (word_kept panel source rest) (framed_word source frame);
    came = h.came;
  }
    where
      same : (b has : Bool) (other word : Word) → (if b then if b then own else other else if has then newest (if b then own else other) word else if b then own else other)
          ≡ (if b then own else if b then other else if has then newest other word else other)
      same true has other word = refl
      same false has other word = refl
