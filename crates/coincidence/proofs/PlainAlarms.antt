-- The finding of an alarm in a zone that each one that counts confirms and releases by itself, by what was kept before it.
use Rattle.std.proofs.Common.{◌≡◌, ℕ, ◌<◌, ◌^◌, false, List, [], ◌∷◌, ◌++◌, None, get_or, ◌&&◌, nat_le, if◌then◌else◌, refl, sym, ◌∙◌, ap, subst, arith}
use Rattle.std.proofs.lemmas.Bool.{eq-eqb}
use Rattle.std.proofs.lemmas.Option.{get_or_from_slice_get}
use Rattle.site_types.specs.declared.site.Site.{Site}
use Rattle.site_types.specs.declared.point.Point.{Point as PointPlan}
use Rattle.site_types.specs.declared.zone.Zone.{Zone as ZonePlan}
use Rattle.site_types.specs.declared.answer.Answer.{Answer}
use Rattle.site_types.specs.declared.retained.Retained.{Retained}
use Rattle.site_types.specs.declared.rule.Rule.TheVariants.{Plain}
use Rattle.site_types.specs.Done.{Done}
use Rattle.site_types.specs.Profile.{missing_askings}
use Rattle.coincidence_rules.proofs.Lists.{same_place}
use Rattle.coincidence_rules.specs.Counted.{is_silent}
use Rattle.coincidence_rules.specs.Findings.{finding_of}
use Rattle.coincidence_rules.specs.Missing.{latest_of, begins_silent}
use Rattle.coincidence.specs.declared.point_watch.PointWatch.{PointWatch}
use Rattle.coincidence.specs.declared.zone_watch.ZoneWatch.{ZoneWatch}
use Rattle.coincidence.specs.declared.decide.Decide.{Decide}
use Rattle.coincidence.specs.declared.judgement.Judgement.{Judgement}
use Rattle.coincidence.specs.Observations.{Judges}
use Rattle.coincidence.specs.Premises.{IsOwn, MayTake}
use Rattle.coincidence.specs.Stands.{DecidesFor}
use Rattle.coincidence.proofs.FindingIs.{HasBit, finding_by, plain_finding_is}
use Rattle.coincidence.proofs.Observations.{fits_last}
use Rattle.coincidence.proofs.TakenAnswer.{latest_more}
use Rattle.coincidence.proofs.Watched.{read_is, watched, zone_watched}

module _ {site : Site} {kept : Retained} {panel : ℕ} {done : List Done} {taken : List Answer} {decide next : Decide} (stands :
    DecidesFor site kept panel done taken decide) (answer : Answer) (may : MayTake site panel done taken (answer ∷ []))
    (noted : DecidesFor site kept panel done (taken ++ answer ∷ []) next) where
  abbrev own : IsOwn site panel answer.point
  own = may.own 0 answer refl

  abbrev after : PointWatch
  after = (watched noted answer.point own).watch

  abbrev zone_after : ZoneWatch
  zone_after = (watched noted answer.point own).zone_watch

  after_read : after ≡ get_or next.points answer.point after
  after_read = let n = watched noted answer.point own in sym (get_or_from_slice_get next.points answer.point n.watch n.watch n.is_watch)

  zone_after_read : zone_after ≡ get_or next.zones.items after.zone zone_after
  zone_after_read =
      let n = watched noted answer.point own in
      sym (ap (λ k. get_or next.zones.items k n.zone_watch) n.watches.zone
      ∙ get_or_from_slice_get next.zones.items n.point.zone n.zone_watch n.zone_watch n.is_zone_watch)

  same_point : (watched stands answer.point own).point ≡ (watched noted answer.point own).point
  same_point =
      let w = watched stands answer.point own in
      let n = watched noted answer.point own in
      same_place site.points answer.point answer.point w.point n.point refl w.is_point n.is_point

  same_zone : (watched stands answer.point own).zone ≡ (watched noted answer.point own).zone
  same_zone =
      let w = watched stands answer.point own in
      let n = watched noted answer.point own in
      same_place site.zones w.point.zone n.point.zone w.zone n.zone (ap (λ (o : PointPlan). o.zone) same_point) w.is_zone n.is_zone

  heard_last : is_silent answer.heard ≡ false → false ≡ nat_le missing_askings after.silent
  heard_last heard =
      let before = latest_of answer.point taken in
      let latest : latest_of answer.point (taken ++ answer ∷ []) ≡ answer ∷ before =
      latest_more answer.point taken answer ∙ ap (λ b. if b then answer ∷ before else before) (eq-eqb answer.point answer.point refl) in
      sym (ap (λ b. b && begins_silent 2 before) heard) ∙ sym (ap (begins_silent missing_askings) latest)
      ∙ (watched noted answer.point own).watches.silent missing_askings (omega arith)

  pub plain_alarm_is : (r : PointWatch) (z : ZoneWatch) → r ≡ get_or decide.points answer.point r → z ≡ get_or decide.zones.items r.zone z
      → (judgement : Judgement) → Judges site kept done answer judgement → is_silent answer.heard ≡ false → z.rule ≡ Plain → z.partner ≡ None
      → (told manual : ℕ) → told < 2 ^ 32 → manual < 2 ^ 32 → HasBit told z.number judgement.counted
      → HasBit manual z.number (judgement.counted && r.manual)
      → finding_by answer told told manual told false ≡ finding_of site kept panel done taken answer
  plain_alarm_is r z e h judgement judges heard plain alone told manual t m ts ms =
      let w = watched stands answer.point own in
      let n = watched noted answer.point own in
      let watches = zone_watched stands answer.point own r z e h in
      let of_point : r.manual ≡ after.manual =
      ap (λ (o : PointWatch). o.manual) (read_is decide.points answer.point r w.watch e w.is_watch) ∙ w.watches.manual
      ∙ ap (λ (o : PointPlan). o.manual) same_point ∙ sym n.watches.manual in
      let number : z.number ≡ zone_after.number =
      watches.number ∙ ap (λ (o : ZonePlan). o.number) same_zone ∙ sym n.watches_zone.number in
      plain_finding_is noted answer (fits_last site kept panel done taken answer may) after zone_after after_read zone_after_read judgement judges
      (n.watches_zone.rule ∙ sym (ap (λ (o : ZonePlan). o.rule) same_zone) ∙ sym watches.rule ∙ plain)
      (n.watches_zone.partner ∙ sym (ap (λ (o : ZonePlan). o.partner) same_zone) ∙ sym watches.partner ∙ alone) told manual false t m
      (subst (λ k. HasBit told k judgement.counted) number ts)
      (subst (λ b. HasBit manual zone_after.number (judgement.counted && b)) of_point
      (subst (λ k. HasBit manual k (judgement.counted && r.manual)) number ms))
      (heard_last heard)
