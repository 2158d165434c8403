-- Which markers have been placed in the order so far.
use Rattle.std.specs.Prelude.{◌≡◌, ◌<◌, ◌==◌, ℕ, Bool, true, false, List, Option, Some, None, length, slice_get}
use Rattle.std.specs.Prelude.{slice_index_or}
use Rattle.std.specs.List.{list_all, list_any, IsDistinct}
use Rattle.site_types.specs.declared.site.Site.{Site}
use Rattle.site_types.specs.declared.term.Term.{Term}
use Rattle.site_types.specs.declared.term.Term.TheVariants.{Zone as ZoneTerm, Manual as ManualTerm}
use Rattle.site_types.specs.declared.term.Term.TheVariants.{Fault as FaultTerm, Marker as MarkerTerm}
use Rattle.cause_effect.specs.Cycles.{terms_of, is_among, is_marker, IsLeast, MeetsCycle}
use Rattle.cause_effect.specs.Orders.{IsRising}
use Rattle.cause_effect.specs.declared.arranged.Arranged.{Arranged}

abbrev pub is_placed : List Bool → ℕ → Bool
is_placed placed m = slice_index_or placed m false

-- a term is no marker, or one that has been placed
abbrev pub is_term_placed : List Bool → Term → Bool
is_term_placed placed (ZoneTerm place) = true
is_term_placed placed (ManualTerm place) = true
is_term_placed placed (FaultTerm panel) = true
is_term_placed placed (MarkerTerm other) = is_placed placed other

-- the markers among a marker's terms have been placed
abbrev pub is_ready : Site → List Bool → ℕ → Bool
is_ready site placed m = list_all (is_term_placed placed) (terms_of (slice_get site.markers m))

-- a marker that hasn't been placed and can be
pub record IsNext (site : Site) (placed : List Bool) (m : ℕ) : Type 0 where
  pub within : m < length site.markers
  pub fresh : is_placed placed m ≡ false
  pub ready : is_ready site placed m ≡ true

-- no marker that hasn't been placed can be
abbrev pub IsStuck : Site → List Bool → Type 0
IsStuck site placed = (m : ℕ) → m < length site.markers → is_placed placed m ≡ false
    → is_ready site placed m ≡ false

abbrev pub NextIs : Site → List Bool → Option ℕ → Type 0
NextIs site placed (Some m) = IsNext site placed m
NextIs site placed None = IsStuck site placed

-- an order of the markers that were placed, each once and after its terms; of the others none can be placed
pub record Arranges (site : Site) (arranged : Arranged) : Type 0 where
  pub same : (m : ℕ) → is_placed arranged.placed m ≡ is_among m arranged.order
  pub once : IsDistinct (λ x y. x == y) arranged.order
  pub rising : IsRising site arranged.order
  pub stuck : IsStuck site arranged.placed

-- a marker that hasn't been placed
pub record IsLeft (site : Site) (placed : List Bool) (m : ℕ) : Type 0 where
  pub within : m < length site.markers
  pub fresh : is_placed placed m ≡ false

abbrev pub FirstLeftIs : Site → List Bool → Option ℕ → Type 0
FirstLeftIs site placed (Some m) = IsLeast (IsLeft site placed) m
FirstLeftIs site placed None = (m : ℕ) → m < length site.markers → is_placed placed m ≡ true

-- the markers that couldn't be placed are those from which one comes to a cycle
pub record LeavesCycles (site : Site) (placed : List Bool) : Type 0 where
  pub meets : (m : ℕ) → IsLeft site placed m → MeetsCycle site m
  pub left : (m : ℕ) → MeetsCycle site m → IsLeft site placed m

-- a marker among some terms that hasn't been placed
pub record IsLeftTerm (placed : List Bool) (terms : List Term) (m : ℕ) : Type 0 where
  pub term : list_any (is_marker m) terms ≡ true
  pub fresh : is_placed placed m ≡ false

abbrev pub LeastLeftIs : List Bool → List Term → Option ℕ → Type 0
LeastLeftIs placed terms (Some m) = IsLeast (IsLeftTerm placed terms) m
LeastLeftIs placed terms None = (m : ℕ) → list_any (is_marker m) terms ≡ true → is_placed placed m ≡ true

-- the place of a number in a list, or none
abbrev pub PlaceIs : List ℕ → ℕ → Option ℕ → Type 0
PlaceIs xs m (Some place) = slice_get xs place ≡ Some m
PlaceIs xs m None = is_among m xs ≡ false
