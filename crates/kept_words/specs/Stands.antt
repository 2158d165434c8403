-- What is kept of all that came.
use Rattle.std.specs.Prelude.{◌≡◌, ◌≤◌, ◌-◌, ℕ, nat_le, List, slice_index_or, if◌then◌else◌}
use Rattle.site_types.specs.declared.word.Word.{Word}
use Rattle.site_types.specs.Words.{empty_word}
use Rattle.kept_words.specs.declared.kept_words.KeptWords.{KeptWords}
use Rattle.kept_words.specs.Arrivals.{Arrival, word_kept, last_from}

-- a number of the ring's panels
abbrev pub IsOfRing : KeptWords → ℕ → Type 0
IsOfRing kept of = (1 ≤ of) × (of ≤ kept.panels)

-- the word of a panel
abbrev pub word_stored : KeptWords → ℕ → Word
word_stored kept source = slice_index_or kept.words (source - 1) empty_word

-- the tick in which the last frame of a panel came
abbrev pub came_from : KeptWords → ℕ → ℕ
came_from kept sender = (slice_index_or kept.came (sender - 1) (record { 0 = 0 })).0

-- what a frame has of a panel: its word, or the empty one where there is no such panel
abbrev pub word_sent : KeptWords → ℕ → Word
word_sent kept of = if nat_le of kept.panels then word_stored kept of else empty_word

-- of a panel of a ring of so many, for all that came
pub record KeepsArrived (panels panel : ℕ) (arrivals : List Arrival) (kept : KeptWords) : Type 0 where
  pub size : kept.panels ≡ panels
  pub own : kept.panel ≡ panel
  pub words : (source : ℕ) → 1 ≤ source → source ≤ 8 → word_stored kept source ≡ word_kept panel source arrivals
  pub came : (sender : ℕ) → 1 ≤ sender → sender ≤ 8 → came_from kept sender ≡ last_from sender arrivals
