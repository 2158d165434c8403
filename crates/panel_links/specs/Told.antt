-- The facts that the words which panels keep tell of their panels, as masks by panel.
use Rattle.std.specs.Prelude.{◌≡◌, ℕ, ◌-◌, ◌^◌, ◌≤◌, ◌<◌, List, [], length, slice_index, slice_index_or}
use Rattle.site_types.specs.declared.word.Word.{Word}
use Rattle.site_types.specs.Bits.{has_bit}
use Rattle.site_types.specs.Words.{empty_word}
use Rattle.marker_table.specs.declared.facts.Facts.{Facts}

-- the word that a panel keeps of another one, in a table of words by panel
abbrev pub table_word : List (List Word) → ℕ → ℕ → Word
table_word words at of = slice_index_or (slice_index_or words (at - 1) []) (of - 1) empty_word

-- no fact is true
abbrev pub empty_facts : Facts
empty_facts = record { zones = []; manual = []; faults = 0 }

-- facts have two masks and a bit for each of eight panels
pub record AreOfEight (facts : Facts) : Type 0 where
  pub zones : length facts.zones ≡ 8
  pub manual : length facts.manual ≡ 8
  pub faults : facts.faults < 2 ^ 8

-- what facts have of a panel is what its word tells: the zones that are released, those with a manual call point in
-- alarm, and whether the panel shows a fault
pub record TellWord (of : ℕ) (word : Word) (facts : Facts) : Type 0 where
  pub zones : slice_index facts.zones (of - 1) ≡ word.released
  pub manual : slice_index facts.manual (of - 1) ≡ word.manual
  pub fault : has_bit facts.faults (of - 1) ≡ word.fault

-- what facts had of each panel but one, they have
abbrev pub KeepOthers : ℕ → Facts → Facts → Type 0
KeepOthers of before facts =
    (other : ℕ) (word : Word) → 1 ≤ other → other ≤ 8 → (other ≡ of → ⊥) → TellWord other word before
    → TellWord other word facts

-- by the panel that keeps, facts are what its words tell
abbrev pub TellTable : ℕ → List (List Word) → List Facts → Type 0
TellTable panels words facts =
    (at of : ℕ) → (1 ≤ at) × (at ≤ panels) → (1 ≤ of) × (of ≤ 8)
    → TellWord of (table_word words at of) (slice_index_or facts (at - 1) empty_facts)

-- each panel that keeps has facts of eight panels
abbrev pub HaveEight : ℕ → List Facts → Type 0
HaveEight panels facts = (at : ℕ) → (1 ≤ at) × (at ≤ panels) → AreOfEight (slice_index_or facts (at - 1) empty_facts)

-- of panels that the ring hasn't, nothing was heard
abbrev pub NoneBeyond : ℕ → List (List Word) → Type 0
NoneBeyond panels words =
    (at of : ℕ) → (1 ≤ at) × (at ≤ panels) → (panels < of) × (of ≤ 8)
    → table_word words at of ≡ empty_word

-- a word is another one with a stamp of its own
abbrev pub TellsSame : Word → Word → Type 0
TellsSame word other = word ≡ record other { stamp = word.stamp }
