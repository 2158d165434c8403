-- The sections of a loop: stretches of addresses and pieces of cable between one isolator and the next.
-- An isolator with number k sits directly after address k; both ends of the loop isolate as well.
use Rattle.std.specs.Prelude.{◌≡◌, ◌<◌, ◌≤◌, ◌+◌, ◌==◌, ℕ, Bool, true, nat_le, nat_lt, max, min, List, [], ◌∷◌}
use Rattle.std.specs.Prelude.{if◌then◌else◌}

-- the place at which the section of an address begins: the greatest isolator before it, else 0, the beginning
-- of the loop
abbrev pub section_of : List ℕ → ℕ → ℕ
section_of [] address = 0
section_of (place ∷ rest) address =
    if nat_lt place address then max place (section_of rest address) else section_of rest address

-- a piece leads from the address of its number to the next one, and lies in the section of that
abbrev pub section_of_piece : List ℕ → ℕ → ℕ
section_of_piece isolators piece = section_of isolators (piece + 1)

-- the place at which the section of an address ends: the least isolator not before it, else the last address
abbrev pub section_end : List ℕ → ℕ → ℕ → ℕ
section_end [] last address = last
section_end (place ∷ rest) last address =
    if nat_le address place then min place (section_end rest last address) else section_end rest last address

-- two addresses lie in one section
abbrev pub is_one_section : List ℕ → ℕ → ℕ → Bool
is_one_section isolators a b = section_of isolators a == section_of isolators b

-- the section of an address holds the addresses behind the place where it begins, up to the one where it
-- ends, and no others
pub record SectionsHold : Type 0 where
  pub own : (isolators : List ℕ) (last address other : ℕ) → 1 ≤ address → address ≤ last → 1 ≤ other
      → other ≤ last →
      is_one_section isolators address other ≡ true → (section_of isolators address < other)
      × (other ≤ section_end isolators last address)
  pub all : (isolators : List ℕ) (last address other : ℕ) → 1 ≤ address → address ≤ last → 1 ≤ other
      → other ≤ last →
      section_of isolators address < other → other ≤ section_end isolators last address
      → is_one_section isolators address other ≡ true
