-- What is said of a plain zone at a tick stays so while answers are noted, and decides its alarms.
use Rattle.std.proofs.Common.{[], set, ◌∷◌, ◌++◌, ◌≡◌, ⊎_elim, ℕ, ◌||◌, ◌&&◌, not, Bool, true, false, List, Some, slice_get, get_or, refl, sym, ◌∙◌, ap, subst}
use Rattle.tick_units.specs.declared.tick.Tick.{Tick}
use Rattle.tick_units.specs.declared.last_done.LastDone.{LastDone}
use Rattle.site_types.specs.declared.site.Site.{Site}
use Rattle.site_types.specs.declared.answer.Answer.{Answer}
use Rattle.site_types.specs.declared.retained.Retained.{Retained}
use Rattle.site_types.specs.Changes.{IsNumber}
use Rattle.site_types.specs.declared.rule.Rule.{Rule}
use Rattle.site_types.specs.declared.rule.Rule.TheVariants.{Plain}
use Rattle.site_types.specs.Done.{Done}
use Rattle.site_types.specs.declared.heard.Heard.{Heard}
use Rattle.site_types.specs.declared.heard.Heard.TheVariants.{Alarm, Quiet, Silent}
use Rattle.coincidence_rules.specs.Counted.{is_alarm, is_silent}
use Rattle.coincidence.specs.declared.decide.Decide.{Decide}
use Rattle.coincidence.specs.declared.judgement.Judgement.{Judgement}
use Rattle.coincidence.specs.declared.plain_zone.PlainZone.{PlainZone}
use Rattle.coincidence.specs.declared.point_watch.PointWatch.{PointWatch}
use Rattle.coincidence.specs.declared.zone_watch.ZoneWatch.{ZoneWatch}
use Rattle.coincidence.specs.Observations.{Judges}
use Rattle.std.proofs.lemmas.List.{set-get_or}
use Rattle.coincidence_rules.specs.Kept.{makes_pairs}
use Rattle.answer_lanes.specs.declared.place_set.PlaceSet.{PlaceSet}
use Rattle.coincidence.specs.GoingOn.{MarksGoingOn}
use Rattle.coincidence.specs.Places.{HasGoingOn}
use Rattle.coincidence.specs.Premises.{MayTake}
use Rattle.coincidence.specs.Parts.{point_noted, switch_at, zone_noted}
use Rattle.coincidence.specs.PlainZones.{RunGoesOn, IsOfPoint, IsSaidAt, KeepsKnown}
use Rattle.coincidence.specs.Stands.{DecidesFor, Fits}
use Rattle.coincidence.proofs.Judged.{counted_is, floor_is}
use Rattle.coincidence.proofs.Observations.{floor_judged, judges_read}
use Rattle.coincidence.proofs.TakenAnswer.{stands_noted, zone_as_before}
use Rattle.coincidence_rules.proofs.Lists.{get_set}
use Rattle.std.specs.Vec.{with_item}
use Rattle.std.proofs.lemmas.Option.{get_or_from_slice_get}
use Rattle.coincidence.proofs.Watched.{fits_next, number_fits, read_is, watched, zone_read}

-- a zone of which an answer is noted is the same but for its latest answers
noted_same : (x : ℕ) (reset : LastDone) (zone : PlainZone) (pairs : Bool) (point : ℕ) (stamp : Tick) (watch : ZoneWatch)
    → IsSaidAt x reset zone watch → IsSaidAt x reset zone (zone_noted pairs point stamp watch)
noted_same x reset zone false point stamp watch h = h
noted_same x reset zone true point stamp watch h =
    record {
      rule = h.rule;
      partner = h.partner;
      number = h.number;
      blocked = h.blocked;
      floor = h.floor;
      settled = λ is. let s = h.settled is in record { last_reset = s.last_reset; moved = s.moved; off = s.off; test = s.test };
    }

-- what is said of any zone stays so where an answer of a point in a zone is noted
pub keeps_known : (decide : Decide) (next : List PointWatch) (g : PlaceSet) (place : ℕ) (pairs : Bool) (point : ℕ) (stamp : Tick) (z y : ZoneWatch)
    → slice_get decide.zones.items place ≡ Some z → y ≡ zone_noted pairs point stamp z
    → KeepsKnown decide (record decide { points = next; zones = with_item decide.zones place y; going_on = g })
keeps_known decide next g place pairs point stamp z y there noted x zone h watch at =
    ⊎_elim
    (λ here.
    subst (IsSaidAt x decide.reset zone) (sym noted ∙ here.1)
    (noted_same x decide.reset zone pairs point stamp z (h z (ap (slice_get decide.zones.items) here.0 ∙ there))))
    (λ other. h watch other.1)
    (get_set decide.zones.items place zone.zone y watch at)

-- what is kept of the zone of an answer's point, of which this is said
pub record SaidOf (answer : Answer) (decide : Decide) (r : PointWatch) (zone : PlainZone) : Type 0 where
  pub watch : ZoneWatch
  pub read : watch ≡ get_or decide.zones.items r.zone watch
  pub there : slice_get decide.zones.items r.zone ≡ Some watch
  pub said : IsSaidAt answer.stamp.0 decide.reset zone watch

module _ {site : Site} {kept : Retained} {panel : ℕ} {done : List Done} {taken : List Answer} {decide : Decide} (stands :
    DecidesFor site kept panel done taken decide) (answer : Answer) (fits : Fits site panel done taken answer) (r : PointWatch)
    (e : r ≡ get_or decide.points answer.point r) where
  pub zone_there : slice_get decide.zones.items r.zone ≡ Some (watched stands answer.point fits.own).zone_watch
  zone_there =
      ap (slice_get decide.zones.items) (zone_read stands answer.point fits.own r e) ∙ (watched stands answer.point fits.own).is_zone_watch

  pub point_same : (watch : PointWatch) → watch ≡ get_or decide.points answer.point watch → r ≡ watch
  point_same watch read =
      let w = watched stands answer.point fits.own in
      read_is decide.points answer.point r w.watch e w.is_watch ∙ sym (read_is decide.points answer.point watch w.watch read w.is_watch)

  pub said_of : (zone : PlainZone) → IsOfPoint answer decide zone → SaidOf answer decide r zone
  said_of zone of =
      let z = (watched stands answer.point fits.own).zone_watch in
      record {
        watch = z;
        read = sym (get_or_from_slice_get decide.zones.items r.zone z z zone_there);
        there = zone_there;
        said = of.known z (ap (slice_get decide.zones.items) (of.own r e) ∙ zone_there);
      }

  -- the zone of which it is said has a number
  pub numbered : (zone : PlainZone) → IsOfPoint answer decide zone → IsNumber zone.number
  numbered zone of =
      let s = said_of zone of in
      subst IsNumber s.said.number (number_fits stands answer.point fits.own r s.watch e s.read)

  -- an alarm in such a zone is judged by what is said of it, and by whether its point is disabled
  pub judged_in : (zone : PlainZone) → IsOfPoint answer decide zone → is_alarm answer.heard ≡ true → (off counted : Bool)
      → off ≡ switch_at answer.stamp.0 r.off → counted ≡ not (off || zone.blocked)
      → Judges site kept done answer (record { counted = counted; floor = zone.floor })
  judged_in zone of alarm off counted is_off is_counted_so =
      let x = answer.stamp.0 in
      let w = watched stands answer.point fits.own in
      let s = said_of zone of in
      let z = s.watch in
      judges_read stands answer fits r e counted zone.floor
      (is_counted_so ∙ ap (λ b. not (b || zone.blocked)) is_off ∙ ap (λ b. not (switch_at x r.off || b)) s.said.blocked
      ∙ sym (ap (λ b. b && not (switch_at x r.off || (switch_at x z.off || switch_at x z.test))) alarm)
      ∙ counted_is stands answer fits r z e s.read)
      (s.said.floor
      ∙ floor_is stands x r.zone w.zone fits.since (ap (slice_get site.zones) (zone_read stands answer.point fits.own r e) ∙ w.is_zone) w.zone_at z
      s.read)

-- an alarm isn't silent
pub not_silent : (heard : Heard) → is_alarm heard ≡ true → is_silent heard ≡ false
not_silent Alarm is = refl
not_silent Quiet is = absurd (cc)
not_silent Silent is = absurd (cc)

-- in a plain zone no answer makes a pair
no_pair : (counted detector : Bool) (rule : Rule) → rule ≡ Plain → false ≡ (counted && makes_pairs rule detector)
no_pair counted detector rule plain = sym (ap (λ q. counted && makes_pairs q detector) plain ∙ none counted)
  where
    none : (b : Bool) → (b && false) ≡ false
    none true = refl
    none false = refl

-- an alarm in a plain zone that leaves what is kept of its point leaves all that is kept
pub gone_on : {site : Site} {kept : Retained} {panel : ℕ} {done : List Done} {taken : List Answer} {decide : Decide} (stands :
    DecidesFor site kept panel done taken decide) (answer : Answer) → MayTake site panel done taken (answer ∷ []) → (judgement : Judgement)
    → Judges site kept done answer judgement → RunGoesOn answer judgement decide → (zone : PlainZone) → IsOfPoint answer decide zone
    → DecidesFor site kept panel done (taken ++ answer ∷ []) decide
gone_on {site} {kept} {panel} {done} {taken} {decide} stands answer may judgement judges on zone of =
    let fits = fits_next site kept panel done taken answer may in
    let s = said_of stands answer fits on.watch on.read zone of in
    let same : decide.points ≡ set decide.points answer.point (point_noted answer.heard judgement.counted judgement.floor answer.stamp on.watch) =
    sym (set-get_or decide.points answer.point on.watch) ∙ ap (set decide.points answer.point) (sym on.read)
    ∙ ap (set decide.points answer.point) (sym (on.stays answer.stamp)) in
    let items : set decide.zones.items on.watch.zone s.watch ≡ decide.zones.items =
    ap (set decide.zones.items on.watch.zone) s.read ∙ set-get_or decide.zones.items on.watch.zone s.watch in
    let noted =
    stands_noted stands answer may on.watch s.watch on.read s.read judgement.counted judgement.floor decide.points s.watch false decide.going_on
    (subst (HasGoingOn decide.going_on decide.since.0 decide.reset decide.points) (sym items) stands.going_on) same
    (no_pair judgement.counted (not on.watch.manual) s.watch.rule s.said.rule) refl judges.counted
    (floor_judged stands answer fits on.watch on.read judgement judges) in
    zone_as_before decide decide.points on.watch.zone s.watch decide.going_on items stands.zone_count stands.going_on noted

-- what is known of a zone stays so where no more than the points whose alarms go on is kept anew
pub known_marked : (old decide : Decide) → MarksGoingOn old decide → KeepsKnown old decide
known_marked old decide marks x zone known watch at =
    subst (λ reset. IsSaidAt x reset zone watch) (sym marks.reset)
    (known watch (ap (λ zones. slice_get zones zone.zone) (sym marks.zones) ∙ at))
