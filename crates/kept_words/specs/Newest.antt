-- What is kept of another panel, of all that came: the first of the newest.
use Rattle.std.specs.Prelude.{◌≡◌, ◌≢◌, ◌≤◌, ◌<◌, ℕ, List, [], ◌∷◌, ◌++◌, Some, slice_get, if◌then◌else◌}
use Rattle.site_types.specs.declared.word.Word.{Word}
use Rattle.site_types.specs.Words.{empty_word}
use Rattle.kept_words.specs.Arrivals.{Arrival, Came, Made, framed_word, has_word_of, word_kept}

-- the words of a panel that came in frames, the first that came first
abbrev pub words_that_came : ℕ → List Arrival → List Word
words_that_came source [] = []
words_that_came source (Came tick frame ∷ before) =
    if has_word_of source frame then words_that_came source before ++ framed_word source frame ∷ []
    else words_that_came source before
words_that_came source (Made own ∷ before) = words_that_came source before

-- a word is the first of the newest of some: none of them has a greater stamp, and those before it have lesser ones
pub record IsFirstNewest (words : List Word) (word : Word) : Type 0 where
  pub place : ℕ
  pub is : slice_get words place ≡ Some word
  pub greatest : (other : ℕ) (w : Word) → slice_get words other ≡ Some w → w.stamp.0 ≤ word.stamp.0
  pub first : (other : ℕ) (w : Word) → other < place → slice_get words other ≡ Some w → w.stamp.0 < word.stamp.0

-- what a panel keeps of another is the first of the newest of the empty word and those that came
abbrev pub KeptIsFirstNewest : Type 0
KeptIsFirstNewest = (panel source : ℕ) (arrivals : List Arrival) → source ≢ panel
    → IsFirstNewest (empty_word ∷ words_that_came source arrivals) (word_kept panel source arrivals)
