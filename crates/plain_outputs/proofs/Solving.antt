-- Values by marker, and the equation of the marker at a place.
use Rattle.std.proofs.Common.{◌≡◌, ◌≢◌, ◌<◌, ◌≤◌, ◌+◌, ℕ, Bool, false, length}
use Rattle.std.proofs.Common.{get_or, inl, inr, arith, below_more, refl, sym, ◌∙◌}
use Rattle.std.proofs.Common.{ap}
use Rattle.site_types.specs.declared.marker.Marker.{Marker as MarkerPlan}
use Rattle.site_types.specs.declared.site.Site.{Site}
use Rattle.std.proofs.lemmas.Option.{slice_get_past, slice_get_read}
use Rattle.site_types.proofs.Done.{lt_tells}
use Rattle.marker_table.specs.declared.facts.Facts.{Facts as Masks}
use Rattle.marker_table.specs.Equations.{equation as equation_over, holds as holds_over, is_met, makes_true}

-- the values below a place are those of a test, and the others are false
abbrev pub FlagsBelow : (ℕ → Bool) → (ℕ → Bool) → ℕ → Type 0
FlagsBelow flags test place = ((m : ℕ) → m < place → flags m ≡ test m) × ((m : ℕ) → place ≤ m → flags m ≡ false)

pub one_more : (flags more : ℕ → Bool) (test : ℕ → Bool) (place : ℕ) (value : Bool) → more place ≡ value → ((m : ℕ) → m ≢ place → more m ≡ flags m)
    → value ≡ test place → FlagsBelow flags test place → FlagsBelow more test (place + 1)
one_more flags more test place value this others is was = (
  below_more _ _ (λ k h. let ne : k ≡ place → ⊥ = omega arith in others k ne ∙ was.0 k h) (this ∙ is),
  λ m h. let ne : m ≡ place → ⊥ = omega arith in let far : place ≤ m = omega arith in others m ne ∙ was.1 m far,
)

-- ---- the equation at a place

pub met_at : (site : Site) (masks : Masks) (v : ℕ → Bool) (place : ℕ) (marker : MarkerPlan) → place < length site.markers
    → marker ≡ get_or site.markers place marker →
    is_met marker.combine (holds_over site masks v) marker.terms ≡ equation_over site masks v place
met_at site masks v place marker within is =
    sym (ap (makes_true site masks v) (slice_get_read site.markers (length site.markers) place marker refl within is))

pub all_below : (site : Site) (masks : Masks) (v flags : ℕ → Bool) (place : ℕ) → length site.markers ≤ place
    → FlagsBelow flags (equation_over site masks v) place → (m : ℕ) → flags m ≡ equation_over site masks v m
all_below site masks v flags place far below m =
    elim (lt_tells m place) [
      | inl h ↦ below.0 m h.1
      | inr h ↦ (let past : length site.markers ≤ m = omega (arith, far, h.1) in
          below.1 m h.1 ∙ sym (ap (makes_true site masks v) (slice_get_past site.markers m past)))
    ]
