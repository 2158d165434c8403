-- The zones and points that are watched, with one more finding or operation.
use Rattle.std.proofs.Common.{◌≡◌, ◌≢◌, ℕ, ◌+◌, Bool, true, false, not, List}
use Rattle.std.proofs.Common.{[], ◌∷◌, ◌++◌, map, length, inl, inr, Option, Some, None, option_map, slice_get, ◌==◌}
use Rattle.std.proofs.Common.{◌&&◌, ◌||◌, nat_lt, if◌then◌else◌, refl, sym, ◌∙◌, ap, subst}
use Rattle.std.proofs.lemmas.Bool.{cases_eq, eq-eqb, ne_eqb}
use Rattle.std.proofs.lemmas.Bool.Decides.{eqb_tells}
use Rattle.std.proofs.lemmas.Option.{slice_get-map}
use Rattle.std.proofs.lemmas.List.{length-map}
use Rattle.tick_units.specs.declared.tick.Tick.{Tick}
use Rattle.site_types.specs.declared.site.Site.{Site}
use Rattle.site_types.specs.declared.point.Point.{Point as PointPlan}
use Rattle.site_types.specs.declared.zone.Zone.{Zone as ZonePlan}
use Rattle.site_types.specs.declared.retained.Retained.{Retained}
use Rattle.site_types.specs.declared.item.Item.{Item}
use Rattle.site_types.specs.declared.item.Item.TheVariants.{Point, Zone, Output}
use Rattle.site_types.specs.declared.operation.Operation.{Operation}
use Rattle.site_types.specs.declared.operation.Operation.TheVariants.{Mute, Override, Silence, Resound, Reset, Cancel, Disable, Enable, Test, Untest, Delays, Clear}
use Rattle.site_types.specs.Bits.{has_bit}
use Rattle.site_types.specs.Done.{Done, Setting, PointOff, ZoneOff, same_setting, item_off, is_on, value_set, in_force, is_floor, is_of_panel, moves_floor, is_cancel, cancels, is_mute, mutes, AreBy}
use Rattle.site_types.specs.declared.point_set.PointSet.{PointSet}
use Rattle.coincidence_rules.specs.declared.finding.Finding.{Finding}
use Rattle.coincidence_rules.proofs.ZoneMasks.{of_numbered}
use Rattle.panel_conditions.specs.declared.zone_watch.ZoneWatch.{ZoneWatch}
use Rattle.panel_conditions.specs.declared.point_switch.PointSwitch.{PointSwitch}
use Rattle.panel_conditions.specs.declared.points.Points.{Points}
use Rattle.tick_units.specs.declared.last_done.LastDone.{LastDone}
use Rattle.panel_conditions.specs.PointSets.{loop_address, address_in, put_at, put_all, either_set, set_without}
use Rattle.panel_conditions.specs.Parts.{zone_taken, zone_done, points_at, points_taken, points_done, points_shown, item_set, is_of_zone, raises, on_watched, switch_points}
use Rattle.tick_units.specs.LastTicks.{last_if}
use Rattle.panel_conditions.specs.Points.{points_where}
use Rattle.panel_conditions.specs.Missing.{missing_found, zone_is_off, shows_missing}
use Rattle.panel_conditions.specs.Told.{MarksTold}
use Rattle.panel_conditions.specs.Stands.{AreNumbered, WatchesZone, WatchesZones, WatchesPoints, TellsPoints, set_or_none, point_is_off, zone_of_is_off}
use Rattle.coincidence_rules.specs.Applied.{TellsLast}
use Rattle.panel_conditions.proofs.Latest.{stamp_more, last-push}
use Rattle.panel_conditions.proofs.PointSwitches.{told_same, told_points}
use Rattle.coincidence_rules.proofs.LastDone.{told_last}
use Rattle.panel_conditions.proofs.BeforeOperation.{points_same}
use Rattle.panel_conditions.proofs.PointSets.{either_is, without_is, none_is}
use Rattle.panel_conditions.proofs.Addressed.{but_at, neq_false, put_place}

-- what stands in a list that each item was changed in
pub get_map : {X : Type 0} (f : X → X) (xs : List X) (k : ℕ) (y : X) → slice_get (map f xs) k ≡ Some y → (x : X) × (slice_get xs k ≡ Some x)
    × (f x ≡ y)
get_map {X = X} f xs k y h = go (slice_get xs k) refl (sym (slice_get-map f xs k) ∙ h)
  where
    go : (o : Option X) → slice_get xs k ≡ o → option_map f o ≡ Some y → (x : X) × (slice_get xs k ≡ Some x) × (f x ≡ y)
    go None e g = cc
    go (Some x) e g = (x, e, cc)

pub get_changed : {X : Type 0} (f : X → X) (o : Option X) (y : X) → option_map f o ≡ Some y → (x : X) × (o ≡ Some x) × (f x ≡ y)
get_changed f None y h = cc
get_changed f (Some x) y h = (x, refl, cc)

-- ---- one more finding

zone_more : (site : Site) (panel : ℕ) (done : List Done) (taken : List Finding) (f : Finding) (k : ℕ) (watch : ZoneWatch) →
    WatchesZone site panel done taken k watch → WatchesZone site panel done (taken ++ f ∷ []) k (zone_taken f watch)
zone_more site panel done taken f k watch h = record {
  place = h.place;
  bit = h.bit;
  within = h.within;
  floor = h.floor;
  cancelled = h.cancelled;
  confirmed = stamp_more (λ f. has_bit f.confirmed k) taken f (has_bit f.confirmed watch.bit) watch.confirmed (ap (has_bit f.confirmed) h.bit)
      h.confirmed;
  called = stamp_more (λ f. has_bit f.manual k) taken f (has_bit f.manual watch.bit) watch.called (ap (has_bit f.manual) h.bit) h.called;
  released = stamp_more (λ f. has_bit f.released k) taken f (has_bit f.released watch.bit) watch.released (ap (has_bit f.released) h.bit) h.released;
  told =
      stamp_more (λ f. has_bit f.counted k && not (has_bit f.manual k)) taken f (has_bit f.counted watch.bit && not (has_bit f.manual watch.bit))
      watch.told
      (ap (λ b. has_bit f.counted b && not (has_bit f.manual b)) h.bit) h.told;
}

pub are_numbered : (site : Site) (panel : ℕ) (done : List Done) (taken : List Finding) (watches : List ZoneWatch)
    → WatchesZones site panel done taken watches → AreNumbered watches
are_numbered site panel done taken watches h k watch at = (h.each k watch at).bit

pub zones_more : (site : Site) (panel : ℕ) (done : List Done) (taken : List Finding) (f : Finding) (before after : List ZoneWatch)
    → length after ≡ length before →
    ((k : ℕ) → slice_get after k ≡ option_map (zone_taken f) (slice_get before k)) → WatchesZones site panel done taken before
    → WatchesZones site panel done (taken ++ f ∷ []) after
zones_more site panel done taken f before after count same h = record {
  count = count ∙ h.count;
  each = λ k watch at.
      let w = get_changed (zone_taken f) (slice_get before k) watch (sym (same k) ∙ at) in
      subst (WatchesZone site panel done (taken ++ f ∷ []) k) w.2 (zone_more site panel done taken f k w.0 (h.each k w.0 w.1));
}

found_now : (taken : List Finding) (f : Finding) → missing_found (taken ++ f ∷ []) f.point ≡ f.missing
found_now taken f = last-push f.point false taken f ∙ ap (λ b. if b then f.missing else missing_found taken f.point) (eq-eqb f.point f.point refl)

found_other : (taken : List Finding) (f : Finding) (place : ℕ) → place ≢ f.point → missing_found (taken ++ f ∷ []) place ≡ missing_found taken place
found_other taken f place apart =
    last-push place false taken f ∙ ap (λ b. if b then f.missing else missing_found taken place) (ne_eqb f.point place (λ e. apart (sym e)))

-- a finding that tells of its point what the last one told
pub points_again : (site : Site) (kept : Retained) (panel : ℕ) (done : List Done) (taken : List Finding) (f : Finding) (points : Points)
    → slice_get points.told f.point ≡ Some f.missing →
    WatchesPoints site kept panel done taken points → WatchesPoints site kept panel done (taken ++ f ∷ []) points
points_again site kept panel done taken f points at h = record {
  own = h.own;
  addresses = h.addresses;
  of_zones = h.of_zones;
  missing = h.missing ∙ points_same site panel (missing_found taken) (missing_found (taken ++ f ∷ [])) same;
  told = λ place b is. h.told place b is ∙ same place;
  off = h.off;
  zone_off = h.zone_off;
}
  where
    same : (place : ℕ) → missing_found taken place ≡ missing_found (taken ++ f ∷ []) place
    same place = elim (cases_eq place f.point) [
      | inl here ↦
          subst (λ p. missing_found taken p ≡ missing_found (taken ++ f ∷ []) p) (sym here)
          (sym (h.told f.point f.missing at) ∙ sym (found_now taken f))
      | inr apart ↦ sym (found_other taken f place apart)
    ]

-- a finding more
pub points_more : (site : Site) (kept : Retained) (panel : ℕ) (done : List Done) (taken : List Finding) (f : Finding) (points amid : Points)
    (told : List Bool) → amid ≡ points_taken f points → MarksTold f.point f.missing amid.told told
    → WatchesPoints site kept panel done taken points → WatchesPoints site kept panel done (taken ++ f ∷ []) (record amid { told = told })
points_more site kept panel done taken f points amid told is marks h = record {
  own = h.own;
  addresses = ap (λ p. p.addresses.items) is ∙ h.addresses;
  of_zones = λ zone. ap (λ p. set_or_none (slice_get p.of_zones.items zone)) is ∙ h.of_zones zone;
  missing =
      ap (λ p. p.missing) is
      ∙ ap (λ l. put_at (address_in (slice_get l f.point)) f.missing points.missing) h.addresses
      ∙ ap (put_at (address_in (slice_get (map (loop_address panel) site.points) f.point)) f.missing) h.missing
      ∙ put_place site panel f.point f.missing (missing_found taken) h.own
      ∙ points_same site panel (but_at f.point f.missing (missing_found taken)) (missing_found (taken ++ f ∷ []))
      (λ place. sym (last-push place false taken f));
  told = λ place b at. elim (marks place b at) [
    | inl here ↦ sym here.1 ∙ subst (λ p. f.missing ≡ missing_found (taken ++ f ∷ []) p) (sym here.0) (sym (found_now taken f))
    | inr other ↦ h.told place b (ap (λ p. slice_get p.told place) (sym is) ∙ other.1) ∙ sym (found_other taken f place other.0)
  ];
  off = subst (TellsPoints site panel (point_is_off site kept done) done) (sym (ap (λ p. p.off) is)) h.off;
  zone_off = subst (TellsPoints site panel (zone_of_is_off site kept done) done) (sym (ap (λ p. p.zone_off) is)) h.zone_off;
}

-- ---- one more operation

-- an operation of a panel moves the floor of a zone of it
moves_is : (site : Site) (panel place : ℕ) (operation : Operation) (zone : ZonePlan) → slice_get site.zones place ≡ Some zone → zone.panel ≡ panel
    → is_floor site place panel operation ≡ raises place operation
moves_is site panel place Reset zone is at = ap (is_of_panel panel) is ∙ eq-eqb panel zone.panel (sym at)
moves_is site panel place (Disable (Point other)) zone is at = refl
moves_is site panel place (Disable (Zone other)) zone is at = refl
moves_is site panel place (Disable (Output other)) zone is at = refl
moves_is site panel place (Test other) zone is at = refl
moves_is site panel place _ zone is at = refl

zone_after : (site : Site) (panel : ℕ) (done : List Done) (taken : List Finding) (operation : Operation) (at : Tick) (k : ℕ) (watch : ZoneWatch)
    → AreBy at.0 done →
    WatchesZone site panel done taken k watch
    → WatchesZone site panel (record { tick = at.0; panel = panel; operation = operation } ∷ done) taken k (zone_done operation at watch)
zone_after site panel done taken operation at k watch since h = record {
  place = h.place;
  bit = h.bit;
  within = h.within;
  floor = λ place is.
      let zone = of_numbered site panel (k + 1) place is in
      told_last (moves_floor site place) d done at watch.floor _ refl
      (moves_is site panel place operation zone.zone zone.is zone.panel_is ∙ sym (ap (on_watched (λ place. raises place operation)) (h.place ∙ is)))
      since (h.floor place is);
  cancelled = λ place is.
      told_last (cancels place) d done at watch.cancelled _ refl (sym (ap (on_watched (λ place. is_cancel place operation)) (h.place ∙ is))) since
      (h.cancelled place is);
  confirmed = h.confirmed;
  called = h.called;
  released = h.released;
  told = h.told;
}
  where
    d : Done
    d = record { tick = at.0; panel = panel; operation = operation }

pub zones_after : (site : Site) (panel : ℕ) (done : List Done) (taken : List Finding) (operation : Operation) (at : Tick) (before after :
    List ZoneWatch) → AreBy at.0 done →
    after ≡ map (zone_done operation at) before → WatchesZones site panel done taken before →
    WatchesZones site panel (record { tick = at.0; panel = panel; operation = operation } ∷ done) taken after
zones_after site panel done taken operation at before after since e h = record {
  count = ap length e ∙ length-map before (zone_done operation at) ∙ h.count;
  each = λ k watch here.
      let w = get_map (zone_done operation at) before k watch (subst (λ l. slice_get l k ≡ Some watch) e here) in
      subst (WatchesZone site panel (record { tick = at.0; panel = panel; operation = operation } ∷ done) taken k) w.2
      (zone_after site panel done taken operation at k w.0 since (h.each k w.0 w.1));
}

either_if : (t q : Bool) → (q || t) ≡ (if t then true else q)
either_if true true = refl
either_if true false = refl
either_if false true = refl
either_if false false = refl

without_if : (t q : Bool) → (q && not t) ≡ (if t then false else q)
without_if true true = refl
without_if true false = refl
without_if false true = refl
without_if false false = refl

or_none : (b : Bool) → (b || false) ≡ b
or_none true = refl
or_none false = refl

and_all : (b : Bool) → (b && true) ≡ b
and_all true = refl
and_all false = refl

-- the points of a zone are put in or taken out
put_zone : (site : Site) (panel : ℕ) (on : Bool) (o : Option PointSet) (zone test : ℕ → Bool) → set_or_none o ≡ points_where site panel zone →
    put_all o on (points_where site panel test) ≡ points_where site panel (λ place. if zone place then on else test place)
put_zone site panel true o zone test is =
    as_either o ∙ ap (either_set (points_where site panel test)) is ∙ either_is site panel test zone
    ∙ points_same site panel (λ place. test place || zone place) (λ place. if zone place then true else test place)
    (λ place. either_if (zone place) (test place))
  where
    as_either : (o : Option PointSet) → put_all o true (points_where site panel test) ≡ either_set (points_where site panel test) (set_or_none o)
    as_either (Some set) = refl
    as_either None =
        sym (ap (either_set (points_where site panel test)) (sym (none_is site panel)) ∙ either_is site panel test (λ place. false)
        ∙ points_same site panel (λ place. test place || false) test (λ place. or_none (test place)))
put_zone site panel false o zone test is =
    as_without o ∙ ap (set_without (points_where site panel test)) is ∙ without_is site panel test zone
    ∙ points_same site panel (λ place. test place && not (zone place)) (λ place. if zone place then false else test place)
    (λ place. without_if (zone place) (test place))
  where
    as_without : (o : Option PointSet) → put_all o false (points_where site panel test) ≡ set_without (points_where site panel test) (set_or_none o)
    as_without (Some set) = refl
    as_without None =
        sym (ap (set_without (points_where site panel test)) (sym (none_is site panel)) ∙ without_is site panel test (λ place. false)
        ∙ points_same site panel (λ place. test place && true) test (λ place. and_all (test place)))

eq_swap : (m n : ℕ) → (m == n) ≡ (n == m)
eq_swap m n = elim (eqb_tells m n) [ inl same ↦ same.0 ∙ sym (eq-eqb n m (sym same.1)) | inr far ↦ far.0 ∙ sym (neq_false n m (λ e. far.1 (sym e))) ]

module _ (site : Site) (kept : Retained) (panel : ℕ) (done : List Done) (taken : List Finding) (at : Tick) (since : AreBy at.0 done) (points : Points)
    (h : WatchesPoints site kept panel done taken points) where
  module _ (operation : Operation) where
    abbrev d : Done
    d = record { tick = at.0; panel = panel; operation = operation }

    abbrev TellsOff : PointSwitch → Type 0
    TellsOff switch = TellsPoints site panel (point_is_off site kept (d ∷ done)) (d ∷ done) switch

    abbrev TellsZoneOff : PointSwitch → Type 0
    TellsZoneOff switch = TellsPoints site panel (zone_of_is_off site kept (d ∷ done)) (d ∷ done) switch

    -- it changes the points and zones that are off, and nothing else that is kept of points
    with_off : (off zone_off : PointSwitch) → TellsOff off → TellsZoneOff zone_off
        → WatchesPoints site kept panel (d ∷ done) taken (record points { off = off; zone_off = zone_off })
    with_off off zone_off tells zone_tells = record {
      own = h.own;
      addresses = h.addresses;
      of_zones = h.of_zones;
      missing = h.missing;
      told = h.told;
      off = tells;
      zone_off = zone_tells;
    }

    -- it disables or enables no point
    no_point_off : ((place : ℕ) → is_on (PointOff place) d ≡ false) → TellsOff points.off
    no_point_off none =
        told_same site panel (point_is_off site kept done) (point_is_off site kept (d ∷ done)) done d points.off h.off
        (λ x place. ap (λ b. if b && nat_lt at.0 x then value_set operation else in_force site kept (PointOff place) x done) (none place))

    -- it disables or enables no zone
    no_zone_off : ((zone : ℕ) → is_on (ZoneOff zone) d ≡ false) → TellsZoneOff points.zone_off
    no_zone_off none =
        told_same site panel (zone_of_is_off site kept done) (zone_of_is_off site kept (d ∷ done)) done d points.zone_off h.zone_off
        (λ x place. zone_same x (slice_get site.points place))
      where
        zone_same : (x : ℕ) (o : Option PointPlan) → zone_is_off site kept (d ∷ done) o x ≡ zone_is_off site kept done o x
        zone_same x None = refl
        zone_same x (Some p) = ap (λ b. if b && nat_lt at.0 x then value_set operation else in_force site kept (ZoneOff p.zone) x done) (none p.zone)

    no_item : ((place : ℕ) → is_on (PointOff place) d ≡ false) → ((zone : ℕ) → is_on (ZoneOff zone) d ≡ false)
        → WatchesPoints site kept panel (d ∷ done) taken points
    no_item no_point no_zone = with_off points.off points.zone_off (no_point_off no_point) (no_zone_off no_zone)

    -- it disables or enables an item
    one_item : (item : Item) (on : Bool) → ((setting : Setting) → is_on setting d ≡ same_setting setting (item_off item)) → value_set operation ≡ on
        → WatchesPoints site kept panel (d ∷ done) taken (item_set item on at points)
    one_item (Point p) on is value =
        with_off (switch_points (put_at (address_in (slice_get points.addresses.items p)) on) at points.off) points.zone_off
        (told_points site panel (point_is_off site kept done) (point_is_off site kept (d ∷ done)) done d points.off h.off (λ place. p == place) on
        (put_at (address_in (slice_get points.addresses.items p)) on) at refl since
        (λ x place.
        ap (λ b. if b && nat_lt at.0 x then value_set operation else in_force site kept (PointOff place) x done)
        (is (PointOff place) ∙ eq_swap place p)
        ∙ ap (λ v. if (p == place) && nat_lt at.0 x then v else in_force site kept (PointOff place) x done) value)
        (λ q. ap (λ l. put_at (address_in (slice_get l p)) on (points_where site panel q)) h.addresses ∙ put_place site panel p on q h.own))
        (no_zone_off (λ zone. is (ZoneOff zone)))
    one_item (Zone z) on is value =
        with_off points.off (switch_points (put_all (slice_get points.of_zones.items z) on) at points.zone_off)
        (no_point_off (λ place. is (PointOff place)))
        (told_points site panel (zone_of_is_off site kept done) (zone_of_is_off site kept (d ∷ done)) done d points.zone_off h.zone_off
        (λ place. is_of_zone z (slice_get site.points place)) on
        (put_all (slice_get points.of_zones.items z) on) at refl since (λ x place. zone_next x (slice_get site.points place))
        (λ q. put_zone site panel on (slice_get points.of_zones.items z) (λ place. is_of_zone z (slice_get site.points place)) q
        (h.of_zones z)))
      where
        zone_next : (x : ℕ) (o : Option PointPlan)
            → zone_is_off site kept (d ∷ done) o x ≡ (if is_of_zone z o && nat_lt at.0 x then on else zone_is_off site kept done o x)
        zone_next x None = refl
        zone_next x (Some p) =
            ap (λ b. if b && nat_lt at.0 x then value_set operation else in_force site kept (ZoneOff p.zone) x done) (is (ZoneOff p.zone))
            ∙ ap (λ v. if (p.zone == z) && nat_lt at.0 x then v else in_force site kept (ZoneOff p.zone) x done) value
    one_item (Output o) on is value = no_item (λ place. is (PointOff place)) (λ zone. is (ZoneOff zone))

  pub points_after : (operation : Operation)
      → WatchesPoints site kept panel (record { tick = at.0; panel = panel; operation = operation } ∷ done) taken (points_done operation at points)
  points_after (Disable item) = one_item (Disable item) item true (λ setting. refl) refl
  points_after (Enable item) = one_item (Enable item) item false (λ setting. refl) refl
  points_after (Test zone) = no_item (Test zone) (λ place. refl) (λ zone. refl)
  points_after (Untest zone) = no_item (Untest zone) (λ place. refl) (λ zone. refl)
  points_after (Delays on) = no_item (Delays on) (λ place. refl) (λ zone. refl)
  points_after Clear = no_item Clear (λ place. refl) (λ zone. refl)
  points_after Mute = no_item Mute (λ place. refl) (λ zone. refl)
  points_after Override = no_item Override (λ place. refl) (λ zone. refl)
  points_after Silence = no_item Silence (λ place. refl) (λ zone. refl)
  points_after Resound = no_item Resound (λ place. refl) (λ zone. refl)
  points_after Reset = no_item Reset (λ place. refl) (λ zone. refl)
  points_after (Cancel zone) = no_item (Cancel zone) (λ place. refl) (λ zone. refl)

-- what is kept of points stays when they are shown
pub points_noted : {site : Site} {kept : Retained} {panel : ℕ} {done : List Done} {taken : List Finding} {points : Points}
    → WatchesPoints site kept panel done taken points → WatchesPoints site kept panel done taken (record points { changed = false })
points_noted h = record {
  own = h.own;
  addresses = h.addresses;
  of_zones = h.of_zones;
  missing = h.missing;
  told = h.told;
  off = h.off;
  zone_off = h.zone_off;
}

-- the missing points that are shown
pub missing_shown : (site : Site) (kept : Retained) (panel : ℕ) (done : List Done) (taken : List Finding) (points : Points) (tick : ℕ)
    → AreBy tick done → WatchesPoints site kept panel done taken points →
    points_shown tick points ≡ points_where site panel (shows_missing site kept done taken tick)
missing_shown site kept panel done taken points tick since h =
    let off = h.off.at tick (h.off.by tick since) in
    let zone_off = h.zone_off.at tick (h.zone_off.by tick since) in
    ap (λ m. set_without (set_without m (points_at tick points.off)) (points_at tick points.zone_off)) h.missing
    ∙ ap (λ m. set_without (set_without (points_where site panel (missing_found taken)) m) (points_at tick points.zone_off)) off
    ∙ ap (λ m. set_without m (points_at tick points.zone_off)) (without_is site panel (missing_found taken) (point_is_off site kept done tick))
    ∙ ap (set_without (points_where site panel (λ place. missing_found taken place && not (point_is_off site kept done tick place)))) zone_off
    ∙ without_is site panel (λ place. missing_found taken place && not (point_is_off site kept done tick place)) (zone_of_is_off site kept done tick)
    ∙ points_same site panel (λ place. (missing_found taken place && not (point_is_off site kept done tick place))
    && not (zone_of_is_off site kept done tick place)) (shows_missing site kept done taken tick)
    (λ place. neither (missing_found taken place) (point_is_off site kept done tick place) (zone_of_is_off site kept done tick place))
  where
    neither : (m a b : Bool) → ((m && not a) && not b) ≡ (m && not (a || b))
    neither true true b = refl
    neither true false b = refl
    neither false a b = refl

pub muted_after : (panel : ℕ) (done : List Done) (operation : Operation) (at : Tick) (on : Bool) (last : LastDone) → on ≡ is_mute operation
    → AreBy at.0 done → TellsLast (mutes panel) done last →
    TellsLast (mutes panel) (record { tick = at.0; panel = panel; operation = operation } ∷ done) (last_if on at last)
muted_after panel done operation at on last e since h =
    told_last (mutes panel) (record { tick = at.0; panel = panel; operation = operation }) done at last on refl
    (ap (λ b. b && is_mute operation) (eq-eqb panel panel refl) ∙ sym e) since h
