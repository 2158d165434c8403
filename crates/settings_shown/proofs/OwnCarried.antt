-- What a site carries over to itself is what it kept of its own things.
use Rattle.std.proofs.Common.{◌≡◌, ℕ, suc, Bool, true, false, List, [], ◌∷◌, ◌++◌, map, Option, Some, None, slice_get, length}
use Rattle.std.proofs.Common.{if◌then◌else◌, refl, sym, ◌∙◌, ap, option_map}
use Rattle.std.specs.List.{AllByRecursion, filter}
use Rattle.site_types.specs.declared.change.Change.{Change}
use Rattle.site_types.specs.declared.change.Change.TheVariants.{Point, Zone, Output, Test}
use Rattle.site_types.specs.declared.named.Thing.TheVariants.{Point as PointThing, Zone as ZoneThing, Output as OutputThing}
use Rattle.site_types.specs.declared.output.Output.{Output as OutputPlan}
use Rattle.site_types.specs.declared.point.Point.{Point as PointPlan}
use Rattle.site_types.specs.declared.retained.Retained.{Retained}
use Rattle.site_types.specs.declared.site.Site.{Site}
use Rattle.site_types.specs.declared.zone.Zone.{Zone as ZonePlan}
use Rattle.site_types.specs.Carry.{carried, output_changes, output_was_off, point_changes, point_was_off, test_changes, zone_changes, zone_was_off}
use Rattle.site_types.specs.Carry.{zone_was_tested}
use Rattle.site_types.specs.Changes.{CanApply, IsSized, changed, changed_by, nothing_retained}
use Rattle.site_types.specs.Done.{PointOff, ZoneOff, OutputOff, InTest, DelaysOff, Counter, at_opening, kept_output, kept_point, kept_test, kept_zone}
use Rattle.site_types.specs.Valid.{IsValid}
use Rattle.site_types.proofs.CarriedSettings.{carried-output, carried-point, carried-test, carried-zone, sized_nothing}
use Rattle.site_types.proofs.Changes.{sized-changed}
use Rattle.site_types.proofs.Namesakes.{the_one}
use Rattle.operation_desk.specs.Replies.{AreInForce}
use Rattle.panel_laws.proofs.StoredSettings.{own_places}
use Rattle.settings_shown.specs.Shown.{HasNoStrangeBits}
use Rattle.settings_shown.proofs.Changes.{KeepsOwn, keeps_output, keeps_point, keeps_test, keeps_zone, outputs_same, points_same, zones_same}
use Rattle.settings_shown.proofs.Nothing.{nothing_own}

-- a change that has a place, and brings no strange bit
pub record IsOwn (site : Site) (change : Change) : Type 0 where
  pub can : CanApply change
  pub keeps : KeepsOwn site change

pub record AreOwn (site : Site) (settings : Retained) : Type 0 where
  pub sized : IsSized settings
  pub own : HasNoStrangeBits site settings

after_all : (site : Site) (changes : List Change) → AllByRecursion (IsOwn site) changes → (settings : Retained) → AreOwn site settings
    → AreOwn site (changed_by changes settings)
after_all site [] each settings h = h
after_all site (change ∷ rest) each settings h =
    let first = each.0 in
    after_all site rest each.1 (changed change settings)
    (record { sized = sized-changed change settings first.can h.sized; own = first.keeps settings h.sized h.own })

each_of_both : {X : Type 0} (P : X → Type 0) (xs ys : List X) → AllByRecursion P xs → AllByRecursion P ys → AllByRecursion P (xs ++ ys)
each_of_both P [] ys a b = b
each_of_both P (x ∷ xs) ys a b = (a.0, each_of_both P xs ys a.1 b)

each_made : {X : Type 0} (P : Change → Type 0) (make : X → Change) (test : X → Bool) (xs : List X)
    → ((k : ℕ) (x : X) → slice_get xs k ≡ Some x → P (make x)) → AllByRecursion P (map make (filter test xs))
each_made P make test [] each = tt
each_made P make test (x ∷ xs) each = go (test x) (each_made P make test xs (λ k y is. each (suc k) y is))
  where
    go : (b : Bool) → AllByRecursion P (map make (filter test xs)) → AllByRecursion P (map make (if b then x ∷ filter test xs else filter test xs))
    go true rest = (each 0 x refl, rest)
    go false rest = rest

-- tests that agree on nothing and on each thing agree on what may be there
agree : {X : Type 0} (f g : Option X → Bool) → f None ≡ g None → ((x : X) → f (Some x) ≡ g (Some x)) → (o : Option X) → f o ≡ g o
agree f g none some None = none
agree f g none some (Some x) = some x

module _ (site : Site) (valid : IsValid site) (kept : Retained) where
  abbrev all_changes : List Change
  all_changes = point_changes site site kept ++ zone_changes site site kept ++ output_changes site site kept ++ test_changes site site kept

  abbrev masks : Retained
  masks = changed_by all_changes nothing_retained

  -- the masks that are carried, with the delays and the counters that were kept
  abbrev pub opened : Retained
  opened = record (carried site site kept) { delays_off = kept.delays_off; counters = kept.counters }

  each_own : AllByRecursion (IsOwn site) all_changes
  each_own =
      let places = own_places site valid in
      let point = λ (p : PointPlan). Point p.panel p.line p.address true in
      let zone = λ (z : ZonePlan). Zone z.panel z.number true in
      let output = λ (o : OutputPlan). Output o.panel o.number true in
      let test = λ (z : ZonePlan). Test z.panel z.number true in
      let points =
      each_made (IsOwn site) point (λ (p : PointPlan). point_was_off site kept p.name.bytes) site.points
      (λ i p is. record { can = places.point i p is; keeps = keeps_point site valid i p true is }) in
      let zones =
      each_made (IsOwn site) zone (λ (z : ZonePlan). zone_was_off site kept z.name.bytes) site.zones
      (λ i z is. record { can = places.zone i z is; keeps = keeps_zone site valid i z true is }) in
      let outputs =
      each_made (IsOwn site) output (λ (o : OutputPlan). output_was_off site kept o.name.bytes) site.outputs
      (λ i o is. record { can = places.output i o is; keeps = keeps_output site valid i o true is }) in
      let tests =
      each_made (IsOwn site) test (λ (z : ZonePlan). zone_was_tested site kept z.name.bytes) site.zones
      (λ i z is. record { can = places.zone i z is; keeps = keeps_test site valid i z true is }) in
      each_of_both (IsOwn site) (point_changes site site kept ++ zone_changes site site kept ++ output_changes site site kept) _
      (each_of_both (IsOwn site) (point_changes site site kept ++ zone_changes site site kept) _ (each_of_both (IsOwn site) _ _ points zones) outputs)
      tests

  masks_own : AreOwn site masks
  masks_own =
      after_all site all_changes each_own nothing_retained (record { sized = sized_nothing; own = nothing_own site (own_places site valid) })

  -- delays and counters are no matter to the settings of things
  point_alike : (i : ℕ) → at_opening site opened (PointOff i) ≡ at_opening site masks (PointOff i)
  point_alike i = agree (kept_point opened) (kept_point masks) refl (λ p. refl) (slice_get site.points i)

  zone_alike : (i : ℕ) → at_opening site opened (ZoneOff i) ≡ at_opening site masks (ZoneOff i)
  zone_alike i = agree (kept_zone opened) (kept_zone masks) refl (λ z. refl) (slice_get site.zones i)

  output_alike : (i : ℕ) → at_opening site opened (OutputOff i) ≡ at_opening site masks (OutputOff i)
  output_alike i = agree (kept_output opened) (kept_output masks) refl (λ o. refl) (slice_get site.outputs i)

  test_alike : (i : ℕ) → at_opening site opened (InTest i) ≡ at_opening site masks (InTest i)
  test_alike i = agree (kept_test opened) (kept_test masks) refl (λ z. refl) (slice_get site.zones i)

  pub opened_own : HasNoStrangeBits site opened
  opened_own panel here =
      let was = masks_own.own panel here in
      record {
        points = points_same site panel _ _ point_alike _ was.points;
        zones = zones_same site panel _ _ zone_alike _ was.zones;
        outputs = outputs_same site panel _ _ output_alike _ was.outputs;
        tests = zones_same site panel _ _ test_alike _ was.tests;
        delays = refl;
      }

  pub opened_sized : length kept.counters ≡ 8 → IsSized opened
  opened_sized eight =
      let was = masks_own.sized in
      record {
        points = was.points;
        loops = was.loops;
        halves = was.halves;
        zones = was.zones;
        outputs = was.outputs;
        counters = eight;
        tests = was.tests;
      }

  -- ---- each setting is as it was kept

  point_kept : (i : ℕ) (o : Option PointPlan) → slice_get site.points i ≡ o → kept_point opened o ≡ kept_point kept o
  point_kept i None is = refl
  point_kept i (Some x) is =
      ap (kept_point opened) (sym is) ∙ agree (kept_point opened) (kept_point (carried site site kept)) refl (λ p. refl) (slice_get site.points i)
      ∙ carried-point site site kept (own_places site valid) i x is
      ∙ the_one (λ (p : PointPlan). p.name.bytes) (λ (p : PointPlan). kept_point kept (Some p)) site.points x.name.bytes i x is refl
      (λ j y at same.
      let one : PointThing j ≡ PointThing i =
      valid.twins.names (PointThing j) (PointThing i) x.name.bytes (ap (option_map (λ (p : PointPlan). p.name.bytes)) at ∙ ap Some same)
      (ap (option_map (λ (p : PointPlan). p.name.bytes)) is) in cc)

  -- two zones with one name are one
  zones_one : (i j : ℕ) (x y : ZonePlan) → slice_get site.zones i ≡ Some x → slice_get site.zones j ≡ Some y → y.name.bytes ≡ x.name.bytes → j ≡ i
  zones_one i j x y is at same =
      let one : ZoneThing j ≡ ZoneThing i =
      valid.twins.names (ZoneThing j) (ZoneThing i) x.name.bytes (ap (option_map (λ (z : ZonePlan). z.name.bytes)) at ∙ ap Some same)
      (ap (option_map (λ (z : ZonePlan). z.name.bytes)) is) in cc

  zone_kept : (i : ℕ) (o : Option ZonePlan) → slice_get site.zones i ≡ o → kept_zone opened o ≡ kept_zone kept o
  zone_kept i None is = refl
  zone_kept i (Some x) is =
      ap (kept_zone opened) (sym is) ∙ agree (kept_zone opened) (kept_zone (carried site site kept)) refl (λ z. refl) (slice_get site.zones i)
      ∙ carried-zone site site kept (own_places site valid) i x is
      ∙ the_one (λ (z : ZonePlan). z.name.bytes) (λ (z : ZonePlan). kept_zone kept (Some z)) site.zones x.name.bytes i x is refl
      (λ j y at same. zones_one i j x y is at same)

  output_kept : (i : ℕ) (o : Option OutputPlan) → slice_get site.outputs i ≡ o → kept_output opened o ≡ kept_output kept o
  output_kept i None is = refl
  output_kept i (Some x) is =
      ap (kept_output opened) (sym is) ∙ agree (kept_output opened) (kept_output (carried site site kept)) refl (λ o. refl) (slice_get site.outputs i)
      ∙ carried-output site site kept (own_places site valid) i x is
      ∙ the_one (λ (o : OutputPlan). o.name.bytes) (λ (o : OutputPlan). kept_output kept (Some o)) site.outputs x.name.bytes i x is refl
      (λ j y at same.
      let one : OutputThing j ≡ OutputThing i =
      valid.twins.names (OutputThing j) (OutputThing i) x.name.bytes (ap (option_map (λ (o : OutputPlan). o.name.bytes)) at ∙ ap Some same)
      (ap (option_map (λ (o : OutputPlan). o.name.bytes)) is) in cc)

  test_kept : (i : ℕ) (o : Option ZonePlan) → slice_get site.zones i ≡ o → kept_test opened o ≡ kept_test kept o
  test_kept i None is = refl
  test_kept i (Some x) is =
      ap (kept_test opened) (sym is) ∙ agree (kept_test opened) (kept_test (carried site site kept)) refl (λ z. refl) (slice_get site.zones i)
      ∙ carried-test site site kept (own_places site valid) i x is
      ∙ the_one (λ (z : ZonePlan). z.name.bytes) (λ (z : ZonePlan). kept_test kept (Some z)) site.zones x.name.bytes i x is refl
      (λ j y at same. zones_one i j x y is at same)

  pub opened_in_force : AreInForce site kept 0 [] opened
  opened_in_force (PointOff i) is = point_kept i (slice_get site.points i) refl
  opened_in_force (ZoneOff i) is = zone_kept i (slice_get site.zones i) refl
  opened_in_force (OutputOff i) is = output_kept i (slice_get site.outputs i) refl
  opened_in_force (InTest i) is = test_kept i (slice_get site.zones i) refl
  opened_in_force (DelaysOff panel) is = refl
  opened_in_force (Counter panel) is = refl
