-- What each panel keeps of each other one, turn by turn.
use Rattle.std.specs.Prelude.{◌≡◌, ℕ, ◌-◌, ◌≤◌, ◌==◌, ◌&&◌, nat_lt, Bool, List, [], ◌∷◌, if◌then◌else◌}
use Rattle.std.specs.Prelude.{slice_index, slice_index_or}
use Rattle.site_types.specs.declared.word.Word.{Word}
use Rattle.panel_links.specs.Words.{Call, Linked, Took, carries, is_up, left_of, right_of}
use Rattle.site_types.specs.Words.{empty_word}

-- the newer of two words by stamp; of two of one stamp the first, which is the one that was kept
abbrev pub newest : Word → Word → Word
newest kept other = if nat_lt kept.stamp.0 other.stamp.0 then other else kept

-- no word that a panel keeps is older than a tick, by panel
abbrev pub NoneOlder : ℕ → List (List Word) → List ℕ → Type 0
NoneOlder panels words oldest =
    (at from : ℕ) → (1 ≤ at) × (at ≤ panels) → (1 ≤ from) × (from ≤ panels)
    → slice_index oldest (at - 1)
    ≤ (slice_index_or (slice_index_or words (at - 1) []) (from - 1) empty_word).stamp.0

-- a word tells of the same zones in alarm and in first state as another
pub record HasZonesOf (word other : Word) : Type 0 where
  pub alarm : word.alarm ≡ other.alarm
  pub first : word.first ≡ other.first

-- what is kept after a neighbour's word came, if it comes
abbrev pub after_word : Bool → Word → Word → Word
after_word comes kept other = if comes then newest kept other else kept

-- a word of a panel comes over a link in a tick
abbrev pub comes_over : ℕ → ℕ → ℕ → Bool → Bool
comes_over panels tick from up = nat_lt 1 panels && (up && carries panels tick from)

-- what a panel keeps of a panel after its turn, from what it kept before, or its own word, and what its
-- neighbours keep
abbrev pub after_turn : ℕ → ℕ → ℕ → Bool → Bool → Word → Word → Word → Word
after_turn panels tick from left_up right_up own left right =
    after_word (comes_over panels tick from right_up)
    (after_word (comes_over panels tick from left_up) own left) right

-- what a panel keeps of another
abbrev pub kept_word : ℕ → ℕ → ℕ → List Call → Word
kept_word panels from at [] = empty_word
kept_word panels from at (Linked link up ∷ before) = kept_word panels from at before
kept_word panels from at (Took tick panel own ∷ before) =
    if panel == at
    then after_turn panels tick from (is_up (left_of panels at) before) (is_up at before)
    (if from == at then own else kept_word panels from at before)
    (kept_word panels from (left_of panels at) before) (kept_word panels from (right_of panels at) before)
    else kept_word panels from at before
