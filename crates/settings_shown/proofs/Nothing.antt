-- Settings with nothing set have no bit at all.
use Rattle.std.proofs.Common.{◌≡◌, ℕ, ◌+◌, ◌-◌, ◌/◌, ◌%◌, ◌<◌, false, [], get_or, replicate, Option, Some, None, slice_get, refl, sym, ◌∙◌, ap, arith}
use Rattle.std.proofs.lemmas.List.{get_or-replicate}
use Rattle.std.proofs.Math.Path.{fun_ext}
use Rattle.site_types.specs.declared.output.Output.{Output as OutputPlan}
use Rattle.site_types.specs.declared.point.Point.{Point as PointPlan}
use Rattle.site_types.specs.declared.site.Site.{Site}
use Rattle.site_types.specs.declared.zone.Zone.{Zone as ZonePlan}
use Rattle.site_types.specs.Bits.{has_bit, has_point, mask_of, no_set}
use Rattle.site_types.specs.Changes.{HasOwnPlaces, nothing_retained}
use Rattle.site_types.specs.Done.{PointOff, ZoneOff, OutputOff, InTest, at_opening, kept_output, kept_point, kept_test, kept_zone, no_points}
use Rattle.site_types.proofs.ChangedBits.{half_small}
use Rattle.site_types.proofs.Masks.{has_bit-mask, has_bit-zero, mask_below, mask_empty}
use Rattle.coincidence_rules.specs.Places.{numbered, on_zone, zones_where}
use Rattle.panel_conditions.specs.Points.{points_where}
use Rattle.panel_conditions.proofs.PointSets.{none_is}
use Rattle.panel_rules.specs.Outputs.{on_place, output_numbered, outputs_where}
use Rattle.settings_shown.specs.Shown.{HasNoStrangeBits}

-- the mask of a test that nothing passes is 0
on_no_zone : (o : Option ℕ) → on_zone (λ zone. false) o ≡ false
on_no_zone None = refl
on_no_zone (Some zone) = refl

on_no_output : (o : Option ℕ) → on_place (λ output. false) o ≡ false
on_no_output None = refl
on_no_output (Some output) = refl

no_zones : (site : Site) (panel : ℕ) → zones_where site panel (λ zone. false) ≡ 0
unfolding zones_where
no_zones site panel =
    mask_empty 32 (mask_of 32 (λ k. on_zone (λ zone. false) (numbered site panel (k + 1)))) (mask_below 32 _)
    (λ k small. has_bit-mask 32 (λ k. on_zone (λ zone. false) (numbered site panel (k + 1))) k small ∙ on_no_zone (numbered site panel (k + 1)))

no_outputs : (site : Site) (panel : ℕ) → outputs_where site panel (λ output. false) ≡ 0
unfolding outputs_where
no_outputs site panel =
    mask_empty 32 (mask_of 32 (λ k. on_place (λ output. false) (output_numbered site panel (k + 1)))) (mask_below 32 _)
    (λ k small. has_bit-mask 32 (λ k. on_place (λ output. false) (output_numbered site panel (k + 1))) k small
    ∙ on_no_output (output_numbered site panel (k + 1)))

no_bit : (k bit : ℕ) → k < 8 → has_bit (get_or (replicate {A = ℕ} 8 0) k 0) bit ≡ false
no_bit k bit small = ap (λ m. has_bit m bit) (get_or-replicate 8 k 0 0 small) ∙ has_bit-zero bit

module _ (site : Site) (own : HasOwnPlaces site) where
  point_on : (i : ℕ) → at_opening site nothing_retained (PointOff i) ≡ false
  point_on i = by (slice_get site.points i) refl
    where
      by : (o : Option PointPlan) → slice_get site.points i ≡ o → kept_point nothing_retained o ≡ false
      by None is = refl
      by (Some p) is =
          let place = own.point i p is in
          let panel = place.0 in
          let at = place.1 in
          ap (λ s. has_point s p.line p.address) (get_or-replicate 8 (p.panel - 1) no_set no_points (omega (arith, panel.0, panel.1)))
          ∙ ap (λ h. has_bit (get_or h ((p.address - 1) / 96) 0) ((p.address - 1) % 96))
          (get_or-replicate 4 (p.line - 1) (replicate 2 0) [] (omega (arith, at.0, at.1)))
          ∙ ap (λ m. has_bit m ((p.address - 1) % 96)) (get_or-replicate 2 ((p.address - 1) / 96) 0 0 (half_small p.address at.3))
          ∙ has_bit-zero ((p.address - 1) % 96)

  zone_on : (i : ℕ) → at_opening site nothing_retained (ZoneOff i) ≡ false
  zone_on i = by (slice_get site.zones i) refl
    where
      by : (o : Option ZonePlan) → slice_get site.zones i ≡ o → kept_zone nothing_retained o ≡ false
      by None is = refl
      by (Some z) is = let panel = (own.zone i z is).0 in no_bit (z.panel - 1) (z.number - 1) (omega (arith, panel.0, panel.1))

  output_on : (i : ℕ) → at_opening site nothing_retained (OutputOff i) ≡ false
  output_on i = by (slice_get site.outputs i) refl
    where
      by : (o : Option OutputPlan) → slice_get site.outputs i ≡ o → kept_output nothing_retained o ≡ false
      by None is = refl
      by (Some z) is = let panel = (own.output i z is).0 in no_bit (z.panel - 1) (z.number - 1) (omega (arith, panel.0, panel.1))

  not_in_test : (i : ℕ) → at_opening site nothing_retained (InTest i) ≡ false
  not_in_test i = by (slice_get site.zones i) refl
    where
      by : (o : Option ZonePlan) → slice_get site.zones i ≡ o → kept_test nothing_retained o ≡ false
      by None is = refl
      by (Some z) is = let panel = (own.zone i z is).0 in no_bit (z.panel - 1) (z.number - 1) (omega (arith, panel.0, panel.1))

  pub nothing_own : HasNoStrangeBits site nothing_retained
  nothing_own panel here = record {
    points = get_or-replicate 8 (panel - 1) no_set no_points small ∙ sym (ap (points_where site panel) (fun_ext point_on) ∙ none_is site panel);
    zones = no_mask ∙ sym (ap (zones_where site panel) (fun_ext zone_on) ∙ no_zones site panel);
    outputs = no_mask ∙ sym (ap (outputs_where site panel) (fun_ext output_on) ∙ no_outputs site panel);
    tests = no_mask ∙ sym (ap (zones_where site panel) (fun_ext not_in_test) ∙ no_zones site panel);
    delays = refl;
  }
    where
      small : panel - 1 < 8
      small = omega (arith, here.0, here.1)

      no_mask : get_or (replicate {A = ℕ} 8 0) (panel - 1) 0 ≡ 0
      no_mask = get_or-replicate 8 (panel - 1) 0 0 small
