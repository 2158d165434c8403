-- What is read for an answer is all by which it is found to confirm or release a zone.
use Rattle.std.proofs.Common.{◌≡◌, ℕ, zero, suc, ◌≤◌, Bool, List, [], ◌∷◌, ◌++◌, Option, Some, slice_get, get_or, refl, sym, ◌∙◌, ap, subst, arith, ⊎_elim}
use Rattle.std.proofs.lemmas.Option.{same_Some}
use Rattle.tick_units.specs.declared.tick.Tick.{Tick}
use Rattle.site_types.specs.declared.site.Site.{Site}
use Rattle.site_types.specs.declared.point.Point.{Point as PointPlan}
use Rattle.site_types.specs.declared.zone.Zone.{Zone as ZonePlan}
use Rattle.site_types.specs.declared.answer.Answer.{Answer}
use Rattle.site_types.specs.declared.retained.Retained.{Retained}
use Rattle.site_types.specs.Done.{Done, floor_before}
use Rattle.coincidence_rules.specs.Counted.{is_counted}
use Rattle.coincidence_rules.specs.Kept.{second_of}
use Rattle.coincidence_rules.proofs.Lists.{get_either}
use Rattle.coincidence.specs.declared.point_watch.PointWatch.{PointWatch}
use Rattle.coincidence.specs.declared.zone_watch.ZoneWatch.{ZoneWatch}
use Rattle.coincidence.specs.declared.judgement.Judgement.{Judgement}
use Rattle.coincidence.specs.declared.partner_finding.PartnerFinding.{PartnerFinding}
use Rattle.coincidence.specs.declared.observation.Observation.{Observation}
use Rattle.coincidence.specs.declared.decide.Decide.{Decide}
use Rattle.coincidence.specs.Observations.{partner_confirmed, partner_released, partner_second_of, Observes, partner_is, FindsPartner, Judges}
use Rattle.coincidence.specs.Stands.{WatchesPoint, WatchesZone, DecidesFor, Fits, CanObserve, CanTake, IsOwnPartner}
use Rattle.coincidence.specs.Premises.{MayTake}
use Rattle.coincidence.proofs.Watched.{read_is, watched, watched_zone, zone_read, partner_own, fits_next}

module _ {site : Site} {kept : Retained} {panel : ℕ} {done : List Done} {taken : List Answer} {decide : Decide} (stands :
    DecidesFor site kept panel done taken decide) (answer : Answer) (fits : Fits site panel done taken answer)
    (point : PointPlan) (zone : ZonePlan) (is_point : slice_get site.points answer.point ≡ Some point) (is_zone :
    slice_get site.zones point.zone ≡ Some zone) where
  pub point_at : point.panel ≡ panel
  point_at = ap (λ (p : PointPlan). p.panel) (same_Some point fits.own.point (sym is_point ∙ fits.own.is)) ∙ fits.own.at

  pub zone_at : zone.panel ≡ panel
  zone_at =
      let zoned = stands.wired.zoned answer.point point is_point in
      ap (λ (z : ZonePlan). z.panel) (same_Some zone zoned.zone (sym is_zone ∙ zoned.is)) ∙ zoned.at_panel ∙ point_at

  watch_of : (r : PointWatch) → r ≡ get_or decide.points answer.point r → WatchesPoint site kept done taken answer.point point r
  watch_of r e =
      let w = watched stands answer.point fits.own in
      subst (WatchesPoint site kept done taken answer.point point) (sym (read_is decide.points answer.point r w.watch e w.is_watch))
      (stands.points answer.point w.watch point w.is_watch is_point point_at)

  pub zone_of_read : (r : PointWatch) → r ≡ get_or decide.points answer.point r → r.zone ≡ point.zone
  zone_of_read r e = (watch_of r e).zone

  pub zone_there : (r : PointWatch) → r ≡ get_or decide.points answer.point r → slice_get site.zones r.zone ≡ Some zone
  zone_there r e = ap (slice_get site.zones) (zone_of_read r e) ∙ is_zone

  zone_watch_of : (r : PointWatch) (z : ZoneWatch) → r ≡ get_or decide.points answer.point r → z ≡ get_or decide.zones.items r.zone z
      → WatchesZone site kept done taken point.zone zone z
  zone_watch_of r z e h =
      let wz = watched_zone stands point.zone zone is_zone zone_at in
      subst (WatchesZone site kept done taken point.zone zone)
      (sym (read_is decide.zones.items r.zone z wz.zone_watch h (ap (slice_get decide.zones.items) (zone_of_read r e) ∙ wz.is_zone_watch))) wz.watches

  pub own_partner_read : (r : PointWatch) (z : ZoneWatch) → r ≡ get_or decide.points answer.point r → z ≡ get_or decide.zones.items r.zone z
      → IsOwnPartner site panel z.partner
  own_partner_read r z e h = partner_own stands point.zone zone is_zone zone_at z.partner (sym (zone_watch_of r z e h).partner)

  pub observes_read : (r : PointWatch) (z : ZoneWatch) → r ≡ get_or decide.points answer.point r → z ≡ get_or decide.zones.items r.zone z
      → (judgement : Judgement) (own_second partner_second : Option Tick) → Judges site kept done answer judgement
      → own_second ≡ second_of site kept done taken r.zone zone.rule answer
      → partner_second ≡ partner_second_of site kept done taken z.partner answer
      → Observes site kept done taken answer point zone (record {
        stamp = answer.stamp;
        counted = judgement.counted;
        manual = r.manual;
        run = r.run;
        floor = judgement.floor;
        own_second = own_second;
        partner_second = partner_second;
      })
  observes_read r z e h judgement own_second partner_second judges n l = record {
    stamp = refl;
    counted = judges.counted;
    manual = (watch_of r e).manual;
    run = (watch_of r e).run;
    floor = judges.floor point is_point;
    own_second = n ∙ ap (λ p. second_of site kept done taken p zone.rule answer) (zone_of_read r e);
    partner_second = l ∙ ap (λ o. partner_second_of site kept done taken o answer) (zone_watch_of r z e h).partner;
  }

module _ {site : Site} {kept : Retained} {panel : ℕ} {done : List Done} {taken : List Answer} {decide : Decide} (stands :
    DecidesFor site kept panel done taken decide) where
  pub partner_finding_is : (place other : ℕ) (plan : ZonePlan) (zone y : ZoneWatch) (seen : Observation) (confirmed released : Bool)
      → slice_get site.zones place ≡ Some plan → plan.panel ≡ panel → WatchesZone site kept done taken place plan zone → zone.partner ≡ Some other
      → y ≡ get_or decide.zones.items other y → confirmed ≡ partner_confirmed y.rule seen → released ≡ partner_released y.rule seen
      → FindsPartner site plan plan.partner seen (record { number = y.number; confirmed = confirmed; released = released })
  partner_finding_is place other plan zone y seen confirmed released is at watches partner e c l =
      let b : PartnerFinding = record { number = y.number; confirmed = confirmed; released = released } in
      let p : plan.partner ≡ Some other = sym watches.partner ∙ partner in
      let has = stands.wired.partners place other plan is p in
      let wz = watched_zone stands other has.partner has.is (has.at_panel ∙ at) in
      let same : y ≡ wz.zone_watch = read_is decide.zones.items other y wz.zone_watch e wz.is_zone_watch in
      let rule : y.rule ≡ has.partner.rule = ap (λ (o : ZoneWatch). o.rule) same ∙ wz.watches.rule in
      subst (λ o. FindsPartner site plan o seen b) (sym p)
      (subst (λ o. partner_is o seen b) (sym has.is) (
        ap (λ (o : ZoneWatch). o.number) same ∙ wz.watches.number,
        c ∙ ap (λ r. partner_confirmed r seen) rule,
        l ∙ ap (λ r. partner_released r seen) rule,
      ))

-- what the operations say of an answer, by the point that is read
module _ {site : Site} {kept : Retained} {panel : ℕ} {done : List Done} {taken : List Answer} {decide : Decide} (stands :
    DecidesFor site kept panel done taken decide) (answer : Answer) (fits : Fits site panel done taken answer) (r : PointWatch)
    (e : r ≡ get_or decide.points answer.point r) where
  zone_is : (point : PointPlan) → slice_get site.points answer.point ≡ Some point → r.zone ≡ point.zone
  zone_is point is =
      let w = watched stands answer.point fits.own in
      zone_read stands answer.point fits.own r e ∙ ap (λ (p : PointPlan). p.zone) (same_Some w.point point (sym w.is_point ∙ is))

  pub judges_read : (counted : Bool) (floor : Tick) → counted ≡ is_counted site kept done answer
      → floor.0 ≡ floor_before site r.zone answer.stamp.0 done → Judges site kept done answer (record { counted = counted; floor = floor })
  judges_read counted floor c f = record {
    counted = c;
    floor = λ point is. f ∙ ap (λ z. floor_before site z answer.stamp.0 done) (zone_is point is);
  }

  -- the floor that is judged is that of the zone that is read
  pub floor_judged : (judgement : Judgement) → Judges site kept done answer judgement
      → judgement.floor.0 ≡ floor_before site r.zone answer.stamp.0 done
  floor_judged judgement judges =
      let w = watched stands answer.point fits.own in
      judges.floor w.point w.is_point ∙ ap (λ z. floor_before site z answer.stamp.0 done) (sym (zone_is w.point w.is_point))

-- an answer that was taken fits as the last one
pub fits_last : (site : Site) (kept : Retained) (panel : ℕ) (done : List Done) (taken : List Answer) (answer : Answer)
    → MayTake site panel done taken (answer ∷ []) → Fits site panel done (taken ++ answer ∷ []) answer
fits_last site kept panel done taken answer may =
    let next = fits_next site kept panel done taken answer may in
    record {
      own = next.own;
      since = next.since;
      late = λ k other at. ⊎_elim (λ before. next.late k other before) (λ last. one last.0 other last.2) (get_either taken (answer ∷ []) k other at);
    }
  where
    one : (j : ℕ) (other : Answer) → slice_get (answer ∷ []) j ≡ Some other → other.stamp.0 ≤ answer.stamp.0
    one zero other at = let e : answer ≡ other = cc in subst (λ (a : Answer). a.stamp.0 ≤ answer.stamp.0) e (omega arith)
    one (suc j) other at = cc

-- so the part that took it can tell of it
pub observes_last : (next : Decide) (answer : Answer) {old : Decide} (can : CanTake old (answer ∷ []))
    → DecidesFor can.site can.kept can.panel can.done (can.taken ++ answer ∷ []) next → CanObserve next answer
observes_last next answer can stands = record {
  site = can.site;
  kept = can.kept;
  panel = can.panel;
  done = can.done;
  taken = can.taken ++ answer ∷ [];
  stands = stands;
  may = fits_last can.site can.kept can.panel can.done can.taken answer can.may;
}
