-- Orders in which every marker comes after its terms.
use Rattle.std.specs.Prelude.{◌≡◌, ◌<◌, ◌==◌, ℕ, true, List, Some, length, slice_get, take}
use Rattle.std.specs.List.{IsDistinct}
use Rattle.site_types.specs.declared.site.Site.{Site}
use Rattle.cause_effect.specs.Cycles.{has_term, is_among}

-- each marker of a list comes after its terms
abbrev pub IsRising : Site → List ℕ → Type 0
IsRising site order = (k m other : ℕ) → slice_get order k ≡ Some m → has_term site m other ≡ true
    → is_among other (take k order) ≡ true

-- an order of all markers of the site, each once and after its terms
pub record IsOrder (site : Site) (order : List ℕ) : Type 0 where
  pub whole : (m : ℕ) → m < length site.markers → is_among m order ≡ true
  pub once : IsDistinct (λ x y. x == y) order
  pub rising : IsRising site order
