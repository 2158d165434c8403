-- No change of a thing of the site brings a strange bit.
use Rattle.std.proofs.Common.{◌≡◌, ℕ, Bool, true, false, not, Option, Some, None, slice_get, refl, sym, ◌∙◌, ap, subst}
use Rattle.std.proofs.Math.Path.{fun_ext}
use Rattle.site_types.specs.declared.change.Change.{Change}
use Rattle.site_types.specs.declared.change.Change.TheVariants.{Point, Zone, Output, Delays, Clear, Test}
use Rattle.site_types.specs.declared.item.Item.{Item}
use Rattle.site_types.specs.declared.item.Item.TheVariants.{Point as PointItem, Zone as ZoneItem, Output as OutputItem}
use Rattle.site_types.specs.declared.operation.Operation.{Operation}
use Rattle.site_types.specs.declared.operation.Operation.TheVariants.{Mute, Override, Silence, Resound, Reset, Cancel, Disable, Enable}
use Rattle.site_types.specs.declared.operation.Operation.TheVariants.{Test as SetTest, Untest, Delays as SetDelays, Clear as ClearCounter}
use Rattle.site_types.specs.declared.output.Output.{Output as OutputPlan}
use Rattle.site_types.specs.declared.point.Point.{Point as PointPlan}
use Rattle.site_types.specs.declared.point_set.PointSet.{PointSet}
use Rattle.site_types.specs.declared.retained.Retained.{Retained}
use Rattle.site_types.specs.declared.site.Site.{Site}
use Rattle.site_types.specs.declared.zone.Zone.{Zone as ZonePlan}
use Rattle.site_types.specs.Changes.{IsSized, changed, item_change, operation_change, output_change, point_change, test_change, zone_change}
use Rattle.site_types.specs.Done.{PointOff, ZoneOff, OutputOff, InTest, at_opening}
use Rattle.site_types.specs.Valid.{IsValid}
use Rattle.site_types.proofs.Changes.{at_output, at_point, at_test, at_zone}
use Rattle.coincidence_rules.specs.Places.{zones_where}
use Rattle.coincidence_rules.proofs.ValidWired.{wired_of}
use Rattle.panel_conditions.specs.Points.{points_where}
use Rattle.panel_laws.proofs.StoredSettings.{own_places}
use Rattle.panel_rules.specs.Outputs.{outputs_where}
use Rattle.settings_shown.specs.Shown.{NoStrangeBitsCome, HasNoStrangeBits}
use Rattle.settings_shown.proofs.Things.{output_put, point_put, zone_put}

-- a mask of a test is one of each test that agrees
module _ (site : Site) (panel : ℕ) (before after : ℕ → Bool) (same : (place : ℕ) → after place ≡ before place) where
  pub points_same : (set : PointSet) → set ≡ points_where site panel before → set ≡ points_where site panel after
  points_same set was = was ∙ ap (points_where site panel) (sym (fun_ext same))

  pub zones_same : (mask : ℕ) → mask ≡ zones_where site panel before → mask ≡ zones_where site panel after
  zones_same mask was = was ∙ ap (zones_where site panel) (sym (fun_ext same))

  pub outputs_same : (mask : ℕ) → mask ≡ outputs_where site panel before → mask ≡ outputs_where site panel after
  outputs_same mask was = was ∙ ap (outputs_where site panel) (sym (fun_ext same))

-- a change that brings no strange bit
abbrev pub KeepsOwn : Site → Change → Type 0
KeepsOwn site change = (settings : Retained) → IsSized settings → HasNoStrangeBits site settings → HasNoStrangeBits site (changed change settings)

module _ (site : Site) (valid : IsValid site) where
  pub keeps_point : (i : ℕ) (plan : PointPlan) (off : Bool) → slice_get site.points i ≡ Some plan
      → KeepsOwn site (Point plan.panel plan.line plan.address off)
  keeps_point i plan off is settings sized own panel here =
      let change = Point plan.panel plan.line plan.address off in
      let at = at_point site settings i plan off (own_places site valid) sized is in
      let was = own panel here in
      record {
        points =
            point_put site i off (λ j. at_opening site settings (PointOff j)) (λ j. at_opening site (changed change settings) (PointOff j))
            (λ j. at (PointOff j)) plan is (own_places site valid) settings.points sized.points (λ p there. (own p there).points) panel here;
        zones = zones_same site panel _ _ (λ j. at (ZoneOff j)) _ was.zones;
        outputs = outputs_same site panel _ _ (λ j. at (OutputOff j)) _ was.outputs;
        tests = zones_same site panel _ _ (λ j. at (InTest j)) _ was.tests;
        delays = refl;
      }

  pub keeps_zone : (i : ℕ) (plan : ZonePlan) (off : Bool) → slice_get site.zones i ≡ Some plan → KeepsOwn site (Zone plan.panel plan.number off)
  keeps_zone i plan off is settings sized own panel here =
      let change = Zone plan.panel plan.number off in
      let at = at_zone site settings i plan off (own_places site valid) sized is in
      let was = own panel here in
      record {
        points = points_same site panel _ _ (λ j. at (PointOff j)) _ was.points;
        zones =
            zone_put site i off (λ j. at_opening site settings (ZoneOff j)) (λ j. at_opening site (changed change settings) (ZoneOff j))
            (λ j. at (ZoneOff j)) plan is (wired_of site valid) settings.zones sized.zones (λ p there. (own p there).zones) panel here;
        outputs = outputs_same site panel _ _ (λ j. at (OutputOff j)) _ was.outputs;
        tests = zones_same site panel _ _ (λ j. at (InTest j)) _ was.tests;
        delays = refl;
      }

  pub keeps_output : (i : ℕ) (plan : OutputPlan) (off : Bool) → slice_get site.outputs i ≡ Some plan
      → KeepsOwn site (Output plan.panel plan.number off)
  keeps_output i plan off is settings sized own panel here =
      let change = Output plan.panel plan.number off in
      let at = at_output site settings i plan off (own_places site valid) sized is in
      let was = own panel here in
      record {
        points = points_same site panel _ _ (λ j. at (PointOff j)) _ was.points;
        zones = zones_same site panel _ _ (λ j. at (ZoneOff j)) _ was.zones;
        outputs =
            output_put site i off (λ j. at_opening site settings (OutputOff j)) (λ j. at_opening site (changed change settings) (OutputOff j))
            (λ j. at (OutputOff j)) plan is (own_places site valid) settings.outputs sized.outputs (λ p there. (own p there).outputs) panel here;
        tests = zones_same site panel _ _ (λ j. at (InTest j)) _ was.tests;
        delays = refl;
      }

  pub keeps_test : (i : ℕ) (plan : ZonePlan) (on : Bool) → slice_get site.zones i ≡ Some plan → KeepsOwn site (Test plan.panel plan.number on)
  keeps_test i plan on is settings sized own panel here =
      let change = Test plan.panel plan.number on in
      let at = at_test site settings i plan on (own_places site valid) sized is in
      let was = own panel here in
      record {
        points = points_same site panel _ _ (λ j. at (PointOff j)) _ was.points;
        zones = zones_same site panel _ _ (λ j. at (ZoneOff j)) _ was.zones;
        outputs = outputs_same site panel _ _ (λ j. at (OutputOff j)) _ was.outputs;
        tests =
            zone_put site i on (λ j. at_opening site settings (InTest j)) (λ j. at_opening site (changed change settings) (InTest j))
            (λ j. at (InTest j)) plan is (wired_of site valid) settings.tests sized.tests (λ p there. (own p there).tests) panel here;
        delays = refl;
      }

  keeps_delays : (of : ℕ) (off : Bool) → KeepsOwn site (Delays of off)
  keeps_delays of off settings sized own panel here =
      let was = own panel here in
      record { points = was.points; zones = was.zones; outputs = was.outputs; tests = was.tests; delays = refl }

  keeps_clear : (of : ℕ) → KeepsOwn site (Clear of)
  keeps_clear of settings sized own panel here =
      let was = own panel here in
      record { points = was.points; zones = was.zones; outputs = was.outputs; tests = was.tests; delays = refl }

  -- ---- the change of an operation

  some_is : {X : Type 0} (x y : X) → Some x ≡ Some y → x ≡ y
  some_is x y e = cc

  made_there : {X : Type 0} (P : Change → Type 0) (change_of : Option X → Option Change) (make : X → Change) (o : Option X) (change : Change)
      → change_of None ≡ None → ((x : X) → change_of (Some x) ≡ Some (make x)) → ((x : X) → o ≡ Some x → P (make x)) → change_of o ≡ Some change
      → P change
  made_there P change_of make None change none some each e = absurd (let never : None ≡ Some change = sym none ∙ e in cc)
  made_there P change_of make (Some x) change none some each e = subst P (some_is (make x) change (sym (some x) ∙ e)) (each x refl)

  keeps_item : (item : Item) (off : Bool) (change : Change) → item_change site item off ≡ Some change → KeepsOwn site change
  keeps_item (PointItem i) off change e =
      made_there (KeepsOwn site) (λ o. point_change o off) (λ (p : PointPlan). Point p.panel p.line p.address off) (slice_get site.points i) change refl
      (λ p. refl) (λ p is. keeps_point i p off is) e
  keeps_item (ZoneItem i) off change e =
      made_there (KeepsOwn site) (λ o. zone_change o off) (λ (z : ZonePlan). Zone z.panel z.number off) (slice_get site.zones i) change refl
      (λ z. refl) (λ z is. keeps_zone i z off is) e
  keeps_item (OutputItem i) off change e =
      made_there (KeepsOwn site) (λ o. output_change o off) (λ (o : OutputPlan). Output o.panel o.number off) (slice_get site.outputs i) change refl
      (λ o. refl) (λ o is. keeps_output i o off is) e

  keeps_tested : (zone : ℕ) (on : Bool) (change : Change) → test_change (slice_get site.zones zone) on ≡ Some change → KeepsOwn site change
  keeps_tested zone on change e =
      made_there (KeepsOwn site) (λ o. test_change o on) (λ (z : ZonePlan). Test z.panel z.number on) (slice_get site.zones zone) change refl
      (λ z. refl) (λ z is. keeps_test zone z on is) e

  pub keeps_operation : (panel : ℕ) (operation : Operation) (change : Change) → operation_change site panel operation ≡ Some change
      → KeepsOwn site change
  keeps_operation panel Mute change e = absurd (cc)
  keeps_operation panel Override change e = absurd (cc)
  keeps_operation panel Silence change e = absurd (cc)
  keeps_operation panel Resound change e = absurd (cc)
  keeps_operation panel Reset change e = absurd (cc)
  keeps_operation panel (Cancel zone) change e = absurd (cc)
  keeps_operation panel (Disable item) change e = keeps_item item true change e
  keeps_operation panel (Enable item) change e = keeps_item item false change e
  keeps_operation panel (SetTest zone) change e = keeps_tested zone true change e
  keeps_operation panel (Untest zone) change e = keeps_tested zone false change e
  keeps_operation panel (SetDelays on) change e = subst (KeepsOwn site) (some_is (Delays panel (not on)) change e) (keeps_delays panel (not on))
  keeps_operation panel ClearCounter change e = subst (KeepsOwn site) (some_is (Clear panel) change e) (keeps_clear panel)

pub changes_keep : NoStrangeBitsCome
changes_keep site settings panel operation change valid sized e own = keeps_operation site valid panel operation change e settings sized own
