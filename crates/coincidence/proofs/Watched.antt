-- What is kept of a point, its zone and the zone's partner lies where the code reads it.
use Rattle.std.proofs.Common.{◌≡◌, ℕ, zero, suc, ◌+◌, ◌*◌, ◌<◌, ◌≤◌, Bool, true, false, List, [], ◌∷◌, length, Option, Some, None, slice_get, get_or, if◌then◌else◌, refl, sym, ◌∙◌, ap, subst, arith}
use Rattle.std.proofs.lemmas.Option.{get_or_from_slice_get}
use Rattle.site_types.specs.declared.site.Site.{Site}
use Rattle.site_types.specs.declared.point.Point.{Point as PointPlan}
use Rattle.site_types.specs.declared.zone.Zone.{Zone as ZonePlan}
use Rattle.site_types.specs.declared.answer.Answer.{Answer}
use Rattle.site_types.specs.declared.retained.Retained.{Retained}
use Rattle.site_types.specs.Changes.{IsNumber}
use Rattle.site_types.specs.Done.{Done, Setting, PointOff, ZoneOff, InTest, is_on, AreBy}
use Rattle.coincidence_rules.proofs.Lists.{get_small, get_left, get_right}
use Rattle.coincidence.specs.declared.point_watch.PointWatch.{PointWatch}
use Rattle.coincidence.specs.declared.zone_watch.ZoneWatch.{ZoneWatch}
use Rattle.coincidence.specs.declared.partner_finding.PartnerFinding.{PartnerFinding}
use Rattle.coincidence.specs.declared.observation.Observation.{Observation}
use Rattle.coincidence.specs.declared.decide.Decide.{Decide}
use Rattle.coincidence.specs.Observations.{FindsPartner, partner_is}
use Rattle.coincidence.specs.Stands.{set_in, WatchesPoint, WatchesZone, DecidesFor, Fits, CanObserve, CanTake, IsPlaceIn, IsOwnPartner}
use Rattle.coincidence.specs.Premises.{IsOwn, MayTake}

module _ {X : Type 0} where
  pub get_any : (xs : List X) (k : ℕ) → k < length xs → (x : X) × (slice_get xs k ≡ Some x)
  get_any [] k small = absurd (omega (arith, small))
  get_any (x ∷ xs) zero small = (x, refl)
  get_any (x ∷ xs) (suc k) small = get_any xs k (omega (arith, small))

  -- what is read at a place is what stands there
  pub read_is : (xs : List X) (k : ℕ) (r x : X) → r ≡ get_or xs k r → slice_get xs k ≡ Some x → r ≡ x
  read_is xs k r x e h = e ∙ get_or_from_slice_get xs k x r h

pub record Watched (site : Site) (kept : Retained) (panel : ℕ) (done : List Done) (taken : List Answer) (decide : Decide) (place : ℕ) : Type 0 where
  pub point : PointPlan
  pub is_point : slice_get site.points place ≡ Some point
  pub at : point.panel ≡ panel
  pub watch : PointWatch
  pub is_watch : slice_get decide.points place ≡ Some watch
  pub watches : WatchesPoint site kept done taken place point watch
  pub zone : ZonePlan
  pub is_zone : slice_get site.zones point.zone ≡ Some zone
  pub zone_at : zone.panel ≡ panel
  pub zone_watch : ZoneWatch
  pub is_zone_watch : slice_get decide.zones.items point.zone ≡ Some zone_watch
  pub watches_zone : WatchesZone site kept done taken point.zone zone zone_watch

pub record WatchedZone (site : Site) (kept : Retained) (done : List Done) (taken : List Answer) (decide : Decide) (place : ℕ) (zone : ZonePlan) :
    Type 0 where
  pub zone_watch : ZoneWatch
  pub is_zone_watch : slice_get decide.zones.items place ≡ Some zone_watch
  pub watches : WatchesZone site kept done taken place zone zone_watch

-- the tick of the last operation on a setting is that of an operation done
pub set_in_by : (x : ℕ) (setting : Setting) (done : List Done) → AreBy x done → set_in setting done ≤ x
set_in_by x setting [] h = omega arith
set_in_by x setting (d ∷ ds) h = go (is_on setting d) (set_in_by x setting ds h.1)
  where
    go : (b : Bool) → set_in setting ds ≤ x → (if b then d.tick else set_in setting ds) ≤ x
    go true rest = h.0
    go false rest = rest

module _ {site : Site} {kept : Retained} {panel : ℕ} {done : List Done} {taken : List Answer} {decide : Decide} (stands :
    DecidesFor site kept panel done taken decide) where
  pub watched_zone : (place : ℕ) (zone : ZonePlan) → slice_get site.zones place ≡ Some zone → zone.panel ≡ panel
      → WatchedZone site kept done taken decide place zone
  watched_zone place zone is at =
      let small = get_small site.zones place zone is in
      let zone_watch = get_any decide.zones.items place (subst (λ n. place < n) (sym stands.zone_count) small) in
      record { zone_watch = zone_watch.0; is_zone_watch = zone_watch.1; watches = stands.zones place zone_watch.0 zone zone_watch.1 is at }

  pub watched : (place : ℕ) → IsOwn site panel place → Watched site kept panel done taken decide place
  watched place own =
      let small = get_small site.points place own.point own.is in
      let watch = get_any decide.points place (subst (λ n. place < n) (sym stands.point_count) small) in
      let zoned = stands.wired.zoned place own.point own.is in
      let zone = watched_zone own.point.zone zoned.zone zoned.is (zoned.at_panel ∙ own.at) in
      record {
        point = own.point;
        is_point = own.is;
        at = own.at;
        watch = watch.0;
        is_watch = watch.1;
        watches = stands.points place watch.0 own.point watch.1 own.is own.at;
        zone = zoned.zone;
        is_zone = zoned.is;
        zone_at = zoned.at_panel ∙ own.at;
        zone_watch = zone.zone_watch;
        is_zone_watch = zone.is_zone_watch;
        watches_zone = zone.watches;
      }

  pub point_small : (place : ℕ) → IsOwn site panel place → place < length decide.points
  point_small place own = let w = watched place own in get_small decide.points place w.watch w.is_watch

  -- the marks of the points whose alarms go on have room for it
  pub mark_small : (place : ℕ) → IsOwn site panel place → place < 8 * length decide.going_on.bytes.items
  mark_small place own =
      let small = point_small place own in
      let room = stands.going_on.room in
      omega (arith, small, room)

  -- what is read of a point
  pub point_read : (place : ℕ) → IsOwn site panel place → (r : PointWatch) × (r ≡ get_or decide.points place r)
  point_read place own =
      let w = watched place own in
      (w.watch, sym (get_or_from_slice_get decide.points place w.watch w.watch w.is_watch))

  -- the zone that is read of a point is its zone
  pub zone_read : (place : ℕ) (own : IsOwn site panel place) (r : PointWatch) → r ≡ get_or decide.points place r
      → r.zone ≡ (watched place own).point.zone
  zone_read place own r e =
      let w = watched place own in
      ap (λ (x : PointWatch). x.zone) (read_is decide.points place r w.watch e w.is_watch) ∙ w.watches.zone

  pub zone_watch_read : (place : ℕ) (own : IsOwn site panel place) (r : PointWatch) (z : ZoneWatch) → r ≡ get_or decide.points place r
      → z ≡ get_or decide.zones.items r.zone z → z ≡ (watched place own).zone_watch
  zone_watch_read place own r z e h =
      let w = watched place own in
      read_is decide.zones.items r.zone z w.zone_watch h (ap (slice_get decide.zones.items) (zone_read place own r e) ∙ w.is_zone_watch)

  pub zone_watched : (place : ℕ) (own : IsOwn site panel place) (r : PointWatch) (z : ZoneWatch) → r ≡ get_or decide.points place r
      → z ≡ get_or decide.zones.items r.zone z
      → WatchesZone site kept done taken (watched place own).point.zone (watched place own).zone z
  zone_watched place own r z e h =
      let w = watched place own in
      subst (WatchesZone site kept done taken w.point.zone w.zone) (sym (zone_watch_read place own r z e h)) w.watches_zone

  pub zone_small : (place : ℕ) → IsOwn site panel place → (r : PointWatch) → r ≡ get_or decide.points place r
      → r.zone < length decide.zones.items
  zone_small place own r e =
      let w = watched place own in
      subst (λ n. n < length decide.zones.items) (sym (zone_read place own r e)) (get_small decide.zones.items w.point.zone w.zone_watch w.is_zone_watch)

  -- the partner of a zone of the panel is one
  pub partner_own : (place : ℕ) (zone : ZonePlan) → slice_get site.zones place ≡ Some zone → zone.panel ≡ panel → (partner : Option ℕ)
      → zone.partner ≡ partner → IsOwnPartner site panel partner
  partner_own place zone is at None e = tt
  partner_own place zone is at (Some other) e = let has = stands.wired.partners place other zone is e in
      record { zone = has.partner; is = has.is; at = has.at_panel ∙ at }

  pub place_in : (partner : Option ℕ) → IsOwnPartner site panel partner → IsPlaceIn partner (length decide.zones.items)
  place_in None own = tt
  place_in (Some other) own = subst (λ n. other < n) (sym stands.zone_count) (get_small site.zones other own.zone own.is)

  pub partner_small : (place : ℕ) → IsOwn site panel place → (r : PointWatch) (z : ZoneWatch) → r ≡ get_or decide.points place r
      → z ≡ get_or decide.zones.items r.zone z → IsPlaceIn z.partner (length decide.zones.items)
  partner_small place own r z e h =
      let w = watched place own in
      let same : z.partner ≡ w.zone.partner = ap (λ (x : ZoneWatch). x.partner) (zone_watch_read place own r z e h) ∙ w.watches_zone.partner in
      place_in z.partner (partner_own w.point.zone w.zone w.is_zone w.zone_at z.partner (sym same))

  pub number_fits : (place : ℕ) → IsOwn site panel place → (r : PointWatch) (z : ZoneWatch) → r ≡ get_or decide.points place r
      → z ≡ get_or decide.zones.items r.zone z → IsNumber z.number
  number_fits place own r z e h =
      let w = watched place own in
      let same : z.number ≡ w.zone.number = ap (λ (x : ZoneWatch). x.number) (zone_watch_read place own r z e h) ∙ w.watches_zone.number in
      subst IsNumber (sym same) (stands.wired.zones w.point.zone w.zone w.is_zone).1

  partner_number : (place : ℕ) (zone : ZonePlan) (seen : Observation) (found : PartnerFinding) → (o : Option ZonePlan) → slice_get site.zones place ≡ o
      → partner_is o seen found → IsNumber found.number
  partner_number place zone seen found None is h = absurd h
  partner_number place zone seen found (Some y) is h = subst IsNumber (sym h.0) (stands.wired.zones place y is).1

  pub partner_number_fits : (place : ℕ) (zone : ZonePlan) (seen : Observation) (found : PartnerFinding) → slice_get site.zones place ≡ Some zone → (partner : Option ℕ)
      → FindsPartner site zone partner seen found → IsNumber found.number
  partner_number_fits place zone seen found is None h = subst IsNumber (sym h.0) (stands.wired.zones place zone is).1
  partner_number_fits place zone seen found is (Some other) h = partner_number other zone seen found (slice_get site.zones other) refl h

  -- the numbers of the zone and of what is found for its partner
  pub numbers_fit : (answer : Answer) (fits : Fits site panel done taken answer) (r : PointWatch) (z : ZoneWatch)
      → r ≡ get_or decide.points answer.point r → z ≡ get_or decide.zones.items r.zone z → (seen : Observation) (found : PartnerFinding)
      → ((place : ℕ) (plan : ZonePlan) → slice_get site.zones place ≡ Some plan → plan.panel ≡ panel → WatchesZone site kept done taken place plan z
      → FindsPartner site plan plan.partner seen found)
      → IsNumber z.number × IsNumber found.number
  numbers_fit answer fits r z e h seen found finds =
      let w = watched answer.point fits.own in (
        number_fits answer.point fits.own r z e h,
        partner_number_fits w.point.zone w.zone seen found w.is_zone w.zone.partner
            (finds w.point.zone w.zone w.is_zone w.zone_at (zone_watched answer.point fits.own r z e h)),
      )

  -- a switch was not set after a stamp
  pub off_since : (answer : Answer) (fits : Fits site panel done taken answer) (r : PointWatch) → r ≡ get_or decide.points answer.point r
      → r.off.since.0 ≤ answer.stamp.0
  off_since answer fits r e =
      let w = watched answer.point fits.own in
      let same : r ≡ w.watch = read_is decide.points answer.point r w.watch e w.is_watch in
      subst (λ (x : PointWatch). x.off.since.0 ≤ answer.stamp.0) (sym same)
      (subst (λ n. n ≤ answer.stamp.0) (sym w.watches.off.since) (set_in_by answer.stamp.0 (PointOff answer.point) done fits.since))

  pub zone_off_since : (answer : Answer) (fits : Fits site panel done taken answer) (r : PointWatch) (z : ZoneWatch)
      → r ≡ get_or decide.points answer.point r → z ≡ get_or decide.zones.items r.zone z → z.off.since.0 ≤ answer.stamp.0
  zone_off_since answer fits r z e h =
      let w = watched answer.point fits.own in
      let same : z ≡ w.zone_watch = zone_watch_read answer.point fits.own r z e h in
      subst (λ (x : ZoneWatch). x.off.since.0 ≤ answer.stamp.0) (sym same)
      (subst (λ n. n ≤ answer.stamp.0) (sym w.watches_zone.off.since) (set_in_by answer.stamp.0 (ZoneOff w.point.zone) done fits.since))

  pub test_since : (answer : Answer) (fits : Fits site panel done taken answer) (r : PointWatch) (z : ZoneWatch)
      → r ≡ get_or decide.points answer.point r → z ≡ get_or decide.zones.items r.zone z → z.test.since.0 ≤ answer.stamp.0
  test_since answer fits r z e h =
      let w = watched answer.point fits.own in
      let same : z ≡ w.zone_watch = zone_watch_read answer.point fits.own r z e h in
      subst (λ (x : ZoneWatch). x.test.since.0 ≤ answer.stamp.0) (sym same)
      (subst (λ n. n ≤ answer.stamp.0) (sym w.watches_zone.test.since) (set_in_by answer.stamp.0 (InTest w.point.zone) done fits.since))

-- an answer that may be taken fits
pub fits_next : (site : Site) (kept : Retained) (panel : ℕ) (done : List Done) (taken : List Answer) (answer : Answer)
    → MayTake site panel done taken (answer ∷ []) → Fits site panel done taken answer
fits_next site kept panel done taken answer may = record {
  own = may.own 0 answer refl;
  since = may.since 0 answer refl;
  late =
      λ k other at. may.order.rising k (length taken + 0) other answer (before k (get_small taken k other at))
      (get_left taken (answer ∷ []) k other at) (get_right taken (answer ∷ []) 0 answer refl);
}
  where
    before : (k : ℕ) → k < length taken → k ≤ length taken + 0
    before k less = omega (arith, less)

pub can_observe : (decide : Decide) (answer : Answer) → CanTake decide (answer ∷ []) → CanObserve decide answer
can_observe decide answer can = record {
  site = can.site;
  kept = can.kept;
  panel = can.panel;
  done = can.done;
  taken = can.taken;
  stands =
      can.stands;
  may = fits_next can.site can.kept can.panel can.done can.taken answer can.may;
}
