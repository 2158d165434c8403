-- A fact more makes no marker false.
use Rattle.std.proofs.Common.{◌≡◌, ℕ, zero, suc, ◌<◌, length, Option, Some, None, slice_get, Bool, true, refl}
use Rattle.site_types.specs.declared.marker.Marker.{Marker as MarkerPlan}
use Rattle.site_types.specs.declared.output.Output.{Output}
use Rattle.site_types.specs.declared.site.Site.{Site}
use Rattle.site_types.specs.declared.term.Term.{Term}
use Rattle.site_types.specs.declared.term.Term.TheVariants.{Zone, Manual, Fault, Marker}
use Rattle.site_types.specs.Valid.{IsPanel, IsTerm, IsValid}
use Rattle.site_types.proofs.ValidSites.{term_of_marker}
use Rattle.cause_effect.proofs.Truths.{met_more}
use Rattle.panel_rules.specs.Markers.{Facts, holds, equation, solved}
use Rattle.panel_rules.specs.Outputs.{on_output, is_true_over}

-- facts that are true in one way are true in the other, for the zones and panels of a site
pub record Grow (site : Site) (one other : Facts) : Type 0 where
  pub released : (zone : ℕ) → zone < length site.zones → one.released zone ≡ true → other.released zone ≡ true
  pub by_hand : (zone : ℕ) → zone < length site.zones → one.by_hand zone ≡ true → other.by_hand zone ≡ true
  pub faulty : (panel : ℕ) → IsPanel site panel → one.faulty panel ≡ true → other.faulty panel ≡ true

module _ (site : Site) (valid : IsValid site) (one other : Facts) (grow : Grow site one other) where
  term_grows : (v w : ℕ → Bool) → ((m : ℕ) → v m ≡ true → w m ≡ true) → (term : Term) → IsTerm site term → holds one v term ≡ true
      → holds other w term ≡ true
  term_grows v w deep (Zone zone) t h = grow.released zone t h
  term_grows v w deep (Manual zone) t h = grow.by_hand zone t h
  term_grows v w deep (Fault panel) t h = grow.faulty panel t h
  term_grows v w deep (Marker marker) t h = deep marker h

  solved_grows : (depth marker : ℕ) → solved site one depth marker ≡ true → solved site other depth marker ≡ true
  solved_grows zero marker h = absurd cc
  solved_grows (suc depth) marker h = go (slice_get site.markers marker) refl (λ m t. solved_grows depth m t) h
    where
      go : (o : Option MarkerPlan) → slice_get site.markers marker ≡ o → ((m : ℕ) → solved site one depth m ≡ true → solved site other depth m ≡ true)
          → equation one (solved site one depth) o ≡ true → equation other (solved site other depth) o ≡ true
      go None is deep h = absurd cc
      go (Some plan) is deep h =
          met_more plan.combine (holds one (solved site one depth)) (holds other (solved site other depth)) plan.terms
          (λ i term at t. term_grows (solved site one depth) (solved site other depth) deep term (term_of_marker site valid marker plan i term is at)
          t) h

  pub output_grows : (output : ℕ) → is_true_over site output one ≡ true → is_true_over site output other ≡ true
  output_grows output h = go (slice_get site.outputs output) h
    where
      go : (o : Option Output) → on_output (λ x. solved site one (length site.markers) x.marker) o ≡ true
          → on_output (λ x. solved site other (length site.markers) x.marker) o ≡ true
      go None h = absurd cc
      go (Some plan) h = solved_grows (length site.markers) plan.marker h
