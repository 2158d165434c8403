-- The opening faces tell what was kept of points and zones.
use Rattle.std.proofs.Common.{◌≡◌, ℕ, ◌-◌, ◌≤◌, List, [], Option, Some, None, slice_get, refl, ◌∙◌, ap, arith}
use Rattle.std.proofs.lemmas.List.FromFn.{get_or-map-range_with_len}
use Rattle.site_types.specs.declared.point.Point.{Point}
use Rattle.site_types.specs.declared.point_set.PointSet.{PointSet}
use Rattle.site_types.specs.declared.retained.Retained.{Retained}
use Rattle.site_types.specs.declared.site.Site.{Site}
use Rattle.site_types.specs.declared.zone.Zone.{Zone}
use Rattle.site_types.specs.Bits.{has_bit, has_point}
use Rattle.site_types.specs.Done.{InTest, PointOff, ZoneOff, at_opening, kept_point, kept_test, kept_zone, no_points}
use Rattle.site_types.specs.Valid.{IsValid}
use Rattle.site_types.proofs.ValidSites.{point_at, point_numbers, zone_at, zone_numbers}
use Rattle.coincidence_rules.proofs.ValidWired.{wired_of}
use Rattle.coincidence_rules.proofs.ZoneMasks.{has_bit-zone}
use Rattle.face_text.specs.declared.face.Face.{Face}
use Rattle.face_text.specs.Faces.{empty_face}
use Rattle.face_reading.specs.Reading.{face_at}
use Rattle.panel_rules.specs.Timeline.{face_of, faces_of}
use Rattle.panel_laws.proofs.Away.{point_bit}
use Rattle.audit_rules.specs.ToldDone.{retained_by}
use Rattle.audit_laws.specs.DoneTold.{SettingsAreTold}

module _ (site : Site) (kept : Retained) (valid : IsValid site) where
  abbrev opened : List Face
  opened = faces_of site kept []

  -- the opening face of a panel of the site
  pub face_is : (panel : ℕ) → 1 ≤ panel → panel ≤ site.panels → face_at opened panel ≡ face_of site kept panel []
  face_is panel low high =
      get_or-map-range_with_len (λ q. face_of site kept q []) 1 site.panels (panel - 1) panel (empty_face panel) (omega (arith, low, high))
      (omega (arith, low))

  point_told : (point : ℕ) (plan : Option Point) → slice_get site.points point ≡ plan → kept_point (retained_by opened) plan ≡ kept_point kept plan
  point_told point None is = refl
  point_told point (Some p) is =
      let n = point_numbers site valid point p is in
      let at = (point_at site valid point p is).panel in
      ap (λ (set : PointSet). has_point set p.line p.address)
      (get_or-map-range_with_len (λ q. (face_at opened q).points_off) 1 8 (p.panel - 1) p.panel no_points (omega (arith, n.0, n.1)) (omega (arith, n.0))
      ∙ ap (λ (f : Face). f.points_off) (face_is p.panel at.0 at.1))
      ∙ point_bit site valid point p is (λ x. at_opening site kept (PointOff x))
      ∙ ap (kept_point kept) is

  zone_told : (zone : ℕ) (plan : Option Zone) → slice_get site.zones zone ≡ plan → kept_zone (retained_by opened) plan ≡ kept_zone kept plan
  zone_told zone None is = refl
  zone_told zone (Some z) is =
      let n = zone_numbers site valid zone z is in
      let at = (zone_at site valid zone z is).panel in
      ap (λ mask. has_bit mask (z.number - 1))
      (get_or-map-range_with_len (λ q. (face_at opened q).zones_off) 1 8 (z.panel - 1) z.panel 0 (omega (arith, n.0, n.1)) (omega (arith, n.0))
      ∙ ap (λ (f : Face). f.zones_off) (face_is z.panel at.0 at.1))
      ∙ has_bit-zone site (λ x. at_opening site kept (ZoneOff x)) zone z (wired_of site valid) is
      ∙ ap (kept_zone kept) is

  test_told : (zone : ℕ) (plan : Option Zone) → slice_get site.zones zone ≡ plan → kept_test (retained_by opened) plan ≡ kept_test kept plan
  test_told zone None is = refl
  test_told zone (Some z) is =
      let n = zone_numbers site valid zone z is in
      let at = (zone_at site valid zone z is).panel in
      ap (λ mask. has_bit mask (z.number - 1))
      (get_or-map-range_with_len (λ q. (face_at opened q).test) 1 8 (z.panel - 1) z.panel 0 (omega (arith, n.0, n.1)) (omega (arith, n.0))
      ∙ ap (λ (f : Face). f.test) (face_is z.panel at.0 at.1))
      ∙ has_bit-zone site (λ x. at_opening site kept (InTest x)) zone z (wired_of site valid) is
      ∙ ap (kept_test kept) is

pub settings_told : SettingsAreTold
settings_told site kept valid =
    record {
      points = λ point. point_told site kept valid point (slice_get site.points point) refl;
      zones = λ zone. zone_told site kept valid zone (slice_get site.zones zone) refl;
      tests = λ zone. test_told site kept valid zone (slice_get site.zones zone) refl;
    }
