-- Markers that depend on themselves, and the cycle that is told of them.
use Rattle.std.specs.Prelude.{◌≡◌, ◌≤◌, ◌==◌, ◌⊎◌, ℕ, Bool, true, false, List, [], ◌∷◌, ◌++◌, Option, Some, None}
use Rattle.std.specs.Prelude.{slice_get}
use Rattle.std.specs.List.{list_any, IsDistinct}
use Rattle.site_types.specs.declared.site.Site.{Site}
use Rattle.site_types.specs.declared.marker.Marker.{Marker}
use Rattle.site_types.specs.declared.term.Term.{Term}
use Rattle.site_types.specs.declared.term.Term.TheVariants.{Zone as ZoneTerm, Manual as ManualTerm}
use Rattle.site_types.specs.declared.term.Term.TheVariants.{Fault as FaultTerm, Marker as MarkerTerm}

-- a term is this marker
abbrev pub is_marker : ℕ → Term → Bool
is_marker m (ZoneTerm place) = false
is_marker m (ManualTerm place) = false
is_marker m (FaultTerm panel) = false
is_marker m (MarkerTerm place) = m == place

-- the terms of a marker
abbrev pub terms_of : Option Marker → List Term
terms_of None = []
terms_of (Some marker) = marker.terms

-- one marker is a term of another, the first given
abbrev pub has_term : Site → ℕ → ℕ → Bool
has_term site m other = list_any (is_marker other) (terms_of (slice_get site.markers m))

-- one marker, the first given, depends on another: directly, or through its terms
pub data Depends (site : Site) : ℕ → ℕ → Type 0 where
  directly : (m other : ℕ) → has_term site m other ≡ true → Depends site m other
  through : (m next other : ℕ) → has_term site m next ≡ true → Depends site next other → Depends site m other

-- no marker depends on itself
abbrev pub HasNoCycle : Site → Type 0
HasNoCycle site = (m : ℕ) → Depends site m m → ⊥

-- from a marker one comes to a marker that depends on itself, or it is one
pub record MeetsCycle (site : Site) (m : ℕ) : Type 0 where
  pub met : ℕ
  pub comes : (m ≡ met) ⊎ Depends site m met
  pub round : Depends site met met

-- the least number that is so
pub record IsLeast (IsSo : ℕ → Type 0) (least : ℕ) : Type 0 where
  pub is : IsSo least
  pub below : (k : ℕ) → IsSo k → least ≤ k

-- a term of a marker from which one comes to a cycle
pub record LeadsOn (site : Site) (m next : ℕ) : Type 0 where
  pub term : has_term site m next ≡ true
  pub meets : MeetsCycle site next

-- each marker of a walk after the first is the least term of the one before it that leads on
abbrev pub GoesOn : Site → ℕ → List ℕ → Type 0
GoesOn site m [] = Unit {0}
GoesOn site m (next ∷ rest) = IsLeast (LeadsOn site m) next × GoesOn site next rest

-- the walk begins at the least marker from which one comes to a cycle
abbrev pub IsWalk : Site → List ℕ → Type 0
IsWalk site [] = Unit {0}
IsWalk site (first ∷ rest) = IsLeast (MeetsCycle site) first × GoesOn site first rest

-- a number is in a list
abbrev pub is_among : ℕ → List ℕ → Bool
is_among m xs = list_any (λ x. m == x) xs

-- a round of markers, listed from its least one onwards
pub record IsFromLeast (round markers : List ℕ) : Type 0 where
  pub front : List ℕ
  pub least : ℕ
  pub back : List ℕ
  pub parts : round ≡ front ++ least ∷ back
  pub listed : markers ≡ (least ∷ back) ++ front
  pub smallest : (m : ℕ) → is_among m round ≡ true → least ≤ m

-- The cycle is the part of the walk between the two meetings of the marker that is met twice first, without
-- its second meeting. It is listed in the order of the walk, from its least member onwards.
pub record IsCycle (site : Site) (markers : List ℕ) : Type 0 where
  pub before : List ℕ
  pub round : List ℕ
  pub twice : ℕ
  pub begins : slice_get round 0 ≡ Some twice
  pub walk : IsWalk site ((before ++ round) ++ twice ∷ [])
  pub once : IsDistinct (λ x y. x == y) (before ++ round)
  pub from_least : IsFromLeast round markers
