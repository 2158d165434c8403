-- What its terms make of a marker goes by its terms alone.
use Rattle.std.proofs.Common.{◌≡◌, ◌<◌, ℕ, zero, suc, Bool, true, List, [], ◌∷◌, Option, Some, None, length, refl, arith}
use Rattle.std.specs.Prelude.{slice_get}
use Rattle.std.specs.List.{list_any}
use Rattle.site_types.specs.declared.site.Site.{Site}
use Rattle.site_types.specs.declared.zone.Zone.{Zone}
use Rattle.site_types.specs.declared.marker.Marker.{Marker}
use Rattle.site_types.specs.declared.term.Term.{Term}
use Rattle.site_types.specs.declared.term.Term.TheVariants.{Zone as ZoneTerm, Manual as ManualTerm, Fault as FaultTerm, Marker as MarkerTerm}
use Rattle.marker_table.specs.declared.facts.Facts.{Facts}
use Rattle.marker_table.specs.Equations.{zone_bit, holds, makes_true, equation}
use Rattle.cause_effect.specs.Cycles.{is_marker, terms_of, has_term}
use Rattle.cause_effect.specs.Solutions.{AreWithin}
use Rattle.cause_effect.proofs.Truths.{met_same, met_more, any_at, equal_number}

-- a marker that has a term is there
term_within : (markers : List Marker) (m other : ℕ) → list_any (is_marker other) (terms_of (slice_get markers m)) ≡ true → m < length markers
term_within [] m other h = cc
term_within (marker ∷ markers) zero other h = omega arith
term_within (marker ∷ markers) (suc m) other h = let less = term_within markers m other h in omega (arith, less)

pub has_within : (site : Site) (m other : ℕ) → has_term site m other ≡ true → m < length site.markers
has_within site m other h = term_within site.markers m other h

holds_same : (site : Site) (facts : Facts) (v w : ℕ → Bool) (term : Term) → ((other : ℕ) → is_marker other term ≡ true → v other ≡ w other)
    → holds site facts v term ≡ holds site facts w term
holds_same site facts v w (ZoneTerm place) same = refl
holds_same site facts v w (ManualTerm place) same = refl
holds_same site facts v w (FaultTerm panel) same = refl
holds_same site facts v w (MarkerTerm other) same = same other (equal_number other)

makes_same : (site : Site) (facts : Facts) (v w : ℕ → Bool) (marker : Option Marker)
    → ((other : ℕ) → list_any (is_marker other) (terms_of marker) ≡ true → v other ≡ w other) →
    makes_true site facts v marker ≡ makes_true site facts w marker
makes_same site facts v w None same = refl
makes_same site facts v w (Some marker) same =
    met_same marker.combine (holds site facts v) (holds site facts w) marker.terms
    (λ k term at. holds_same site facts v w term (λ other is. same other (any_at (is_marker other) marker.terms k term at is)))

-- values that agree on a marker's terms make the same of it
pub equation_same : (site : Site) (facts : Facts) (v w : ℕ → Bool) (m : ℕ) → ((other : ℕ) → has_term site m other ≡ true → v other ≡ w other)
    → equation site facts v m ≡ equation site facts w m
equation_same site facts v w m same = makes_same site facts v w (slice_get site.markers m) same

zone_more : (fewer more : List ℕ) (zone : Option Zone) → ((z : Zone) → zone_bit fewer (Some z) ≡ true → zone_bit more (Some z) ≡ true)
    → zone_bit fewer zone ≡ true → zone_bit more zone ≡ true
zone_more fewer more None within h = h
zone_more fewer more (Some zone) within h = within zone h

holds_more : (site : Site) (fewer more : Facts) (v w : ℕ → Bool) → AreWithin fewer more → ((other : ℕ) → v other ≡ true → w other ≡ true) →
    (term : Term) → holds site fewer v term ≡ true → holds site more w term ≡ true
holds_more site fewer more v w within grows (ZoneTerm place) h =
    zone_more fewer.zones more.zones (slice_get site.zones place) (λ z. within.zones _ _) h
holds_more site fewer more v w within grows (ManualTerm place) h =
    zone_more fewer.manual more.manual (slice_get site.zones place) (λ z. within.manual _ _) h
holds_more site fewer more v w within grows (FaultTerm panel) h = within.faults _ h
holds_more site fewer more v w within grows (MarkerTerm other) h = grows other h

makes_more : (site : Site) (fewer more : Facts) (v w : ℕ → Bool) → AreWithin fewer more → ((other : ℕ) → v other ≡ true → w other ≡ true) →
    (marker : Option Marker) → makes_true site fewer v marker ≡ true → makes_true site more w marker ≡ true
makes_more site fewer more v w within grows None h = h
makes_more site fewer more v w within grows (Some marker) h =
    met_more marker.combine (holds site fewer v) (holds site more w) marker.terms (λ k term at. holds_more site fewer more v w within grows term) h

-- where more is true, a marker is true no less
pub equation_more : (site : Site) (fewer more : Facts) (v w : ℕ → Bool) → AreWithin fewer more → ((other : ℕ) → v other ≡ true → w other ≡ true) →
    (m : ℕ) → equation site fewer v m ≡ true → equation site more w m ≡ true
equation_more site fewer more v w within grows m h = makes_more site fewer more v w within grows (slice_get site.markers m) h
