-- Written cases: how many markers depend on a change.
use Rattle.std.specs.Prelude.{◌≡◌, ◌≢◌, ◌<◌, ◌≤◌, ◌==◌, ℕ, zero, suc, Bool, false, List, [], ◌∷◌, length, slice_get}
use Rattle.std.specs.Prelude.{if◌then◌else◌}
use Rattle.site_types.specs.declared.site.Site.{Site}
use Rattle.site_types.specs.declared.term.Term.{Term}
use Rattle.site_types.specs.declared.term.Term.TheVariants.{Zone as ZoneTerm, Manual as ManualTerm}
use Rattle.site_types.specs.declared.term.Term.TheVariants.{Fault as FaultTerm, Marker as MarkerTerm}
use Rattle.marker_table.specs.declared.facts.Facts.{Facts}
use Rattle.cause_effect.specs.Cycles.{terms_of}
use Rattle.cause_effect.specs.Changes.{is_changed}

-- a term is this zone
abbrev pub is_zone : ℕ → Term → Bool
is_zone zone (ZoneTerm place) = place == zone
is_zone zone (ManualTerm place) = false
is_zone zone (FaultTerm panel) = false
is_zone zone (MarkerTerm other) = false

-- a zone was released, or is released no more, and nothing else changed
abbrev pub ChangesZone : Site → Facts → Facts → ℕ → Type 0
ChangesZone site before after zone = (term : Term) → is_changed site before after term ≡ is_zone zone term

-- two markers: the first has two zones as terms, the second the first of these alone
pub record AreTwo (site : Site) (hall lab : ℕ) : Type 0 where
  pub size : length site.markers ≡ 2
  pub first : terms_of (slice_get site.markers 0) ≡ ZoneTerm hall ∷ ZoneTerm lab ∷ []
  pub second : terms_of (slice_get site.markers 1) ≡ ZoneTerm hall ∷ []
  pub apart : hall ≢ lab

-- the terms in a chain of so many markers: each has the one before as its term, the first a zone, and the
-- last another zone besides
abbrev pub chain_terms : ℕ → ℕ → ℕ → ℕ → List Term
chain_terms count hall lab zero = ZoneTerm hall ∷ []
chain_terms count hall lab (suc m) = MarkerTerm m ∷ (if suc (suc m) == count then ZoneTerm lab ∷ [] else [])

-- a chain of markers
pub record IsChain (site : Site) (count hall lab : ℕ) : Type 0 where
  pub size : length site.markers ≡ count
  pub terms : (m : ℕ) → m < count → terms_of (slice_get site.markers m) ≡ chain_terms count hall lab m
  pub long : 2 ≤ count
  pub apart : hall ≢ lab
