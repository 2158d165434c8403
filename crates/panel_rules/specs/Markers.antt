-- Cause and effect: which markers are true over facts.
use Rattle.std.specs.Prelude.{◌≡◌, ℕ, zero, suc, Bool, false, length, Option, Some, None, slice_get}
use Rattle.site_types.specs.declared.marker.Marker.{Marker as MarkerPlan}
use Rattle.site_types.specs.declared.site.Site.{Site}
use Rattle.site_types.specs.declared.term.Term.{Term}
use Rattle.site_types.specs.declared.term.Term.TheVariants.{Zone, Manual, Fault, Marker}
use Rattle.marker_table.specs.Equations.{is_met}

-- what markers are solved over: which zones are released, which are in alarm by hand, which panels tell a
-- fault
pub record Facts : Type 0 where
  pub released : ℕ → Bool
  pub by_hand : ℕ → Bool
  pub faulty : ℕ → Bool

-- the hand facts: zones and manual call points count where a manual call point did it, and faults do not
abbrev pub hand_facts : Facts → Facts
hand_facts facts = record { released = facts.by_hand; by_hand = facts.by_hand; faulty = λ panel. false }

abbrev pub holds : Facts → (ℕ → Bool) → Term → Bool
holds facts values (Zone zone) = facts.released zone
holds facts values (Manual zone) = facts.by_hand zone
holds facts values (Fault panel) = facts.faulty panel
holds facts values (Marker marker) = values marker

-- the equation of a marker: enough of its terms hold
abbrev pub equation : Facts → (ℕ → Bool) → Option MarkerPlan → Bool
equation facts values None = false
equation facts values (Some marker) = is_met marker.combine (holds facts values) marker.terms

-- values of markers that satisfy the equation of each; a place without a marker is false
abbrev pub IsSolution : Site → Facts → (ℕ → Bool) → Type 0
IsSolution site facts values = (marker : ℕ)
    → values marker ≡ equation facts values (slice_get site.markers marker)

-- the value of a marker with markers below it to a depth
abbrev pub solved : Site → Facts → ℕ → ℕ → Bool
solved site facts zero marker = false
solved site facts (suc depth) marker =
    equation facts (solved site facts depth) (slice_get site.markers marker)

-- the solution: where no marker depends on itself, no way down passes more markers than there are
abbrev pub solution : Site → Facts → ℕ → Bool
solution site facts marker = solved site facts (length site.markers) marker
