-- Of some zones or outputs the one that comes first.
use Rattle.std.specs.Prelude.{◌≡◌, ℕ, ◌<◌, Bool, true, false, List, [], ◌∷◌, length, Option, Some, None, slice_get}
use Rattle.std.specs.Prelude.{slice_index_or, not, ◌&&◌, ◌-◌}
use Rattle.site_types.specs.Bits.{has_bit}
use Rattle.audit_rules.specs.Breaches.{is_lower}
use Rattle.panel_audit.specs.declared.numbered.Numbered.{Numbered}

-- what decides it: the panel, then the number there
abbrev pub standing_of : Numbered → List ℕ
standing_of thing = thing.panel ∷ thing.number ∷ []

-- a thing comes before another one, if there is one
abbrev pub ComesFirst : List Numbered → ℕ → Option ℕ → Bool → Type 0
ComesFirst things place None result = result ≡ true
ComesFirst things place (Some best) result = (one other : Numbered) → slice_get things place ≡ Some one
    → slice_get things best ≡ Some other → result ≡ is_lower (standing_of one) (standing_of other)

-- a marked thing before a place, which no marked one before that place comes before
pub record IsLowestBefore (things : List Numbered) (marks : List Bool) (bound lowest : ℕ) : Type 0 where
  pub before : lowest < bound
  pub thing : Numbered
  pub is : slice_get things lowest ≡ Some thing
  pub marked : slice_index_or marks lowest false ≡ true
  pub least : (place : ℕ) (other : Numbered) → place < bound → slice_get things place ≡ Some other
      → slice_index_or marks place false ≡ true → is_lower (standing_of other) (standing_of thing) ≡ false

-- of the things before a place that one, or none is marked
abbrev pub LowestBefore : List Numbered → List Bool → ℕ → Option ℕ → Type 0
LowestBefore things marks bound None = (place : ℕ) → place < bound → slice_index_or marks place false ≡ false
LowestBefore things marks bound (Some lowest) = IsLowestBefore things marks bound lowest

abbrev pub MarkedLowest : List Numbered → List Bool → Option ℕ → Type 0
MarkedLowest things marks lowest = LowestBefore things marks (length things) lowest

-- the bit of a thing, in masks by panel
abbrev pub is_in_masks : List ℕ → Numbered → Bool
is_in_masks masks thing = has_bit (slice_index_or masks (thing.panel - 1) 0) (thing.number - 1)

-- the thing is in some masks and not in others
abbrev pub is_left : List ℕ → List ℕ → Numbered → Bool
is_left wanted shown thing = is_in_masks wanted thing && not (is_in_masks shown thing)
