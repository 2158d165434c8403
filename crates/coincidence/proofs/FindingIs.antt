-- The masks that are made of what is seen of an answer are its finding.
use Rattle.std.proofs.Common.{◌≡◌, ℕ, ◌+◌, ◌<◌, ◌^◌, Bool, false, true, List, Option, Some, None, get_or, not, slice_get, ◌==◌, ◌&&◌, ◌||◌, nat_le, if◌then◌else◌, refl, sym, ◌∙◌, ap, subst, arith}
use Rattle.site_types.specs.declared.site.Site.{Site}
use Rattle.site_types.specs.declared.answer.Answer.{Answer}
use Rattle.site_types.specs.declared.retained.Retained.{Retained}
use Rattle.site_types.specs.Bits.{has_bit}
use Rattle.site_types.specs.Done.{Done, is_blocked}
use Rattle.site_types.specs.Profile.{missing_askings}
use Rattle.site_types.specs.declared.rule.Rule.{Rule}
use Rattle.site_types.specs.declared.rule.Rule.TheVariants.{Plain, A, B, C}
use Rattle.site_types.proofs.Masks.{has_bit-zero}
use Rattle.std.specs.List.{list_any}
use Rattle.coincidence_rules.proofs.Lists.{and_false}
use Rattle.coincidence_rules.proofs.ZoneMasks.{zones_from_bits}
use Rattle.coincidence_rules.specs.declared.finding.Finding.{Finding}
use Rattle.coincidence_rules.specs.Places.{is_detector, is_of, numbered, on_zone, pairs_up, rule_of, zones_where}
use Rattle.coincidence_rules.specs.Counted.{is_alarm, is_counted}
use Rattle.coincidence_rules.specs.Confirmed.{coincides, confirms, is_by_call_point, is_second}
use Rattle.coincidence_rules.specs.Alarm.{calls, releases, releases_by}
use Rattle.coincidence_rules.specs.Findings.{finding_among}
use Rattle.coincidence_rules.specs.Wired.{HasPartner}
use Rattle.coincidence.specs.declared.point_watch.PointWatch.{PointWatch}
use Rattle.coincidence.specs.declared.zone_watch.ZoneWatch.{ZoneWatch}
use Rattle.coincidence.specs.declared.observation.Observation.{Observation}
use Rattle.coincidence.specs.declared.partner_finding.PartnerFinding.{PartnerFinding}
use Rattle.coincidence.specs.declared.decide.Decide.{Decide}
use Rattle.coincidence.specs.declared.judgement.Judgement.{Judgement}
use Rattle.coincidence.specs.Observations.{own_confirmed, own_released, Judges, Observes, partner_is, partner_second_of, FindsPartner}
use Rattle.coincidence_rules.specs.Kept.{second_of}
use Rattle.coincidence.proofs.Observations.{observes_read}
use Rattle.coincidence.specs.Stands.{DecidesFor, WatchesZone, Fits}
use Rattle.coincidence.proofs.Watched.{read_is, Watched, watched, zone_watched}
use Rattle.coincidence.proofs.Masked.{IsOther, IsSecondBit, bit_of, mask_is}
use Rattle.coincidence.proofs.ConfirmedZones.{own_confirmed_is, own_released_is, partner_confirmed_is, partner_released_is}
use Rattle.coincidence.proofs.ConfirmedZones.{none_confirmed, none_released, none_called, none_counted, own_called, own_counted}

-- the one bit of a mask, and the two of another
abbrev pub HasBit : ℕ → ℕ → Bool → Type 0
HasBit mask number on = (k : ℕ) → k < 32 → has_bit mask k ≡ (if (k + 1) == number then on else false)

abbrev pub HasBits : ℕ → ℕ → Bool → ℕ → Bool → Type 0
HasBits mask number on other also = (k : ℕ) → k < 32 → has_bit mask k ≡ (if (k + 1) == number then on else (((k + 1) == other) && also))

-- the finding of an answer that tells of zones by these masks
abbrev pub finding_by : Answer → (counted confirmed manual released : ℕ) → (missing : Bool) → Finding
finding_by answer counted confirmed manual released missing = record {
  stamp = answer.stamp;
  point = answer.point;
  counted = counted;
  confirmed = confirmed;
  manual = manual;
  released = released;
  missing = missing;
}

pub same_finding : (answer : Answer) (c d f g m n r q : ℕ) (a b : Bool) → c ≡ d → f ≡ g → m ≡ n → r ≡ q → a ≡ b
    → finding_by answer c f m r a ≡ finding_by answer d g n q b
same_finding answer c d f g m n r q a b e1 e2 e3 e4 e5 = cc

module _ {site : Site} {kept : Retained} {panel : ℕ} {done : List Done} {all : List Answer} {decide : Decide} (stands :
    DecidesFor site kept panel done all decide) (answer : Answer) (fits : Fits site panel done all answer)
    (r : PointWatch) (z : ZoneWatch) (e : r ≡ get_or decide.points answer.point r) (h : z ≡ get_or decide.zones.items r.zone z) (seen :
    Observation) (found : PartnerFinding) where
  abbrev w : Watched site kept panel done all decide answer.point
  w = watched stands answer.point fits.own

  z_watches : WatchesZone site kept done all w.point.zone w.zone z
  z_watches = zone_watched stands answer.point fits.own r z e h

  abbrev IsObserved : Type 0
  IsObserved = Observes site kept done all answer w.point w.zone seen

  -- the second bit of what confirms, and of what releases, where the zone has a partner
  partner_bit : (test : ℕ → Bool) (also : Bool) (other : ℕ) (p : w.zone.partner ≡ Some other) → FindsPartner site w.zone (Some other) seen found
      → ((has : HasPartner site w.point.zone w.zone other) → partner_is (Some has.partner) seen found → test other ≡ also)
      → IsOther site panel test found.number also other
  partner_bit test also other p b tests =
      let has = stands.wired.partners w.point.zone other w.zone w.is_zone p in
      let tells : partner_is (Some has.partner) seen found = subst (λ y. partner_is y seen found) has.is b in
      record { zone = has.partner; is = has.is; at = has.at_panel ∙ w.zone_at; number_is = tells.0; tests = tests has tells }

  second_confirmed : IsObserved → (o : Option ℕ) → w.zone.partner ≡ o → FindsPartner site w.zone o seen found
      → IsSecondBit site panel (λ q. confirms site kept done all q answer) found.number found.confirmed o
  second_confirmed observes None p b = b.1
  second_confirmed observes (Some other) p b =
      partner_bit _ _ other p b (λ has tells.
      sym (tells.1 ∙ partner_confirmed_is site kept done all answer w.point w.zone seen stands.wired w.is_point w.is_zone stands.order
      fits.late observes other p has.partner has.is has.type))

  second_released : IsObserved → (o : Option ℕ) → w.zone.partner ≡ o → FindsPartner site w.zone o seen found
      → IsSecondBit site panel (λ q. releases site kept done all q answer) found.number found.released o
  second_released observes None p b = b.2
  second_released observes (Some other) p b =
      partner_bit _ _ other p b (λ has tells.
      sym (tells.2 ∙ partner_released_is site kept done all answer w.point w.zone seen stands.wired w.is_point w.is_zone stands.order
      fits.late observes other p has.partner has.is has.type))

  own_bits : (mask : ℕ) (on : Bool) (other : ℕ) (also : Bool) → HasBits mask z.number on other also → (k : ℕ) → k < 32
      → has_bit mask k ≡ bit_of w.zone.number on other also (k + 1)
  own_bits mask on other also bits k small = bits k small ∙ ap (λ n. bit_of n on other also (k + 1)) z_watches.number

  own_bit : (mask : ℕ) (on : Bool) → HasBit mask z.number on → (k : ℕ) → k < 32 → has_bit mask k ≡ bit_of w.zone.number on z.number false (k + 1)
  own_bit mask on bit =
      own_bits mask on z.number false
      (λ k small. bit k small ∙ ap (λ b. if (k + 1) == z.number then on else b) (sym (and_false ((k + 1) == z.number) false refl)))

  pub finding_is : IsObserved → FindsPartner site w.zone w.zone.partner seen found → (counted confirmed manual released : ℕ) (missing : Bool)
      → counted < 2 ^ 32 → confirmed < 2 ^ 32 → manual < 2 ^ 32 → released < 2 ^ 32
      → HasBit counted z.number seen.counted → HasBits confirmed z.number (own_confirmed z.rule seen) found.number found.confirmed
      → HasBit manual z.number (seen.counted && seen.manual)
      → HasBits released z.number (own_released z.rule seen) found.number found.released → missing ≡ nat_le missing_askings r.silent
      → finding_by answer counted confirmed manual released missing ≡ finding_among site kept panel done all answer
  finding_is observes partner counted confirmed manual released missing c f m l cs fs ms ls miss =
      same_finding answer counted _ confirmed _ manual _ released _ missing _
      (mask_is site stands.wired panel w.point.zone w.zone w.is_zone w.zone_at (λ q. is_counted site kept done answer && is_of site q answer.point)
      seen.counted
      (own_counted site kept done all answer w.point w.zone seen stands.wired w.is_point w.is_zone stands.order fits.late observes)
      z.number false None counted c refl (λ q apart x. none_counted site kept done all answer w.point w.zone seen stands.wired w.is_point w.is_zone
      stands.order fits.late observes q apart) (own_bit counted seen.counted cs))
      (mask_is site stands.wired panel w.point.zone w.zone w.is_zone w.zone_at (λ q. confirms site kept done all q answer)
      (own_confirmed z.rule seen)
      (sym (ap (λ y. own_confirmed y seen) z_watches.rule ∙ own_confirmed_is site kept done all answer w.point w.zone seen stands.wired w.is_point
      w.is_zone stands.order fits.late observes))
      found.number found.confirmed w.zone.partner confirmed f (second_confirmed observes w.zone.partner refl partner)
      (λ q apart x. none_confirmed site kept done all answer w.point w.zone seen stands.wired w.is_point w.is_zone stands.order fits.late observes q
      apart x) (own_bits confirmed (own_confirmed z.rule seen) found.number found.confirmed fs))
      (mask_is site stands.wired panel w.point.zone w.zone w.is_zone w.zone_at (λ q. calls site kept done q answer) (seen.counted && seen.manual)
      (own_called site kept done all answer w.point w.zone seen stands.wired w.is_point w.is_zone stands.order fits.late observes)
      z.number false None manual m refl (λ q apart x. none_called site kept done all answer w.point w.zone seen stands.wired w.is_point w.is_zone
      stands.order fits.late observes q apart) (own_bit manual (seen.counted && seen.manual) ms))
      (mask_is site stands.wired panel w.point.zone w.zone w.is_zone w.zone_at (λ q. releases site kept done all q answer) (own_released z.rule seen)
      (sym (ap (λ y. own_released y seen) z_watches.rule ∙ own_released_is site kept done all answer w.point w.zone seen stands.wired w.is_point
      w.is_zone stands.order fits.late observes))
      found.number found.released w.zone.partner released l (second_released observes w.zone.partner refl partner)
      (λ q apart x. none_released site kept done all answer w.point w.zone seen stands.wired w.is_point w.is_zone stands.order fits.late observes q apart
      x) (own_bits released (own_released z.rule seen) found.number found.released ls))
      (miss ∙ ap (λ (o : PointWatch). nat_le missing_askings o.silent) (read_is decide.points answer.point r w.watch e w.is_watch) ∙ sym
      (w.watches.silent missing_askings (omega arith)))

-- what counts confirms a plain zone
counts_plain : (counted manual : Bool) → (counted && (manual || true)) ≡ counted
counts_plain false manual = refl
counts_plain true false = refl
counts_plain true true = refl

-- the finding of an alarm in a zone that each alarm that counts confirms and releases by itself
pub plain_finding_is : {site : Site} {kept : Retained} {panel : ℕ} {done : List Done} {all : List Answer} {decide : Decide}
    (stands : DecidesFor site kept panel done all decide) (answer : Answer) (fits : Fits site panel done all answer)
    (r : PointWatch) (z : ZoneWatch) (e : r ≡ get_or decide.points answer.point r) (h : z ≡ get_or decide.zones.items r.zone z)
    (judgement : Judgement) → Judges site kept done answer judgement → z.rule ≡ Plain → z.partner ≡ None → (told manual : ℕ) (missing : Bool)
    → told < 2 ^ 32 → manual < 2 ^ 32 → HasBit told z.number judgement.counted → HasBit manual z.number (judgement.counted && r.manual)
    → missing ≡ nat_le missing_askings r.silent
    → finding_by answer told told manual told missing ≡ finding_among site kept panel done all answer
plain_finding_is {site} {kept} {panel} {done} {all} {decide} stands answer fits r z e h judgement judges plain alone told manual missing t m ts ms miss =
    let w = watched stands answer.point fits.own in
    let watches = zone_watched stands answer.point fits.own r z e h in
    let second = second_of site kept done all r.zone w.zone.rule answer in
    let partner_second = partner_second_of site kept done all z.partner answer in
    let seen : Observation = record {
      stamp = answer.stamp;
      counted = judgement.counted;
      manual = r.manual;
      run = r.run;
      floor = judgement.floor;
      own_second = second;
      partner_second = partner_second;
    } in
    let found : PartnerFinding = record { number = z.number; confirmed = false; released = false } in
    let observes = observes_read stands answer fits w.point w.zone w.is_point w.is_zone r z e h judgement second partner_second judges refl refl in
    let partner : FindsPartner site w.zone w.zone.partner seen found =
    subst (λ o. FindsPartner site w.zone o seen found) (sym alone ∙ watches.partner) (watches.number, refl, refl) in
    let confirmed : own_confirmed z.rule seen ≡ judgement.counted = ap (λ y. own_confirmed y seen) plain ∙ counts_plain judgement.counted r.manual in
    let released : own_released z.rule seen ≡ judgement.counted = ap (λ y. own_released y seen) plain ∙ counts_plain judgement.counted r.manual in
    let bits : (on : Bool) → on ≡ judgement.counted → HasBits told z.number on z.number false =
    λ on is k small. ts k small ∙ ap (λ b. if (k + 1) == z.number then judgement.counted else b) (sym (and_false ((k + 1) == z.number) false refl))
    ∙ ap (λ b. if (k + 1) == z.number then b else (((k + 1) == z.number) && false)) (sym is) in
    finding_is stands answer fits r z e h seen found observes partner told told manual told missing t t m t ts (bits _ confirmed) ms (bits _ released) miss

-- ---- an answer that doesn't count tells of no zone

nothing_on : (test : ℕ → Bool) (o : Option ℕ) → ((q : ℕ) → test q ≡ false) → false ≡ on_zone test o
nothing_on test None fails = refl
nothing_on test (Some q) fails = sym (fails q)

no_mask : (site : Site) (panel : ℕ) (test : ℕ → Bool) → ((q : ℕ) → test q ≡ false) → 0 ≡ zones_where site panel test
no_mask site panel test fails =
    zones_from_bits site panel test 0 (omega arith) (λ k small. has_bit-zero k ∙ nothing_on test (numbered site panel (k + 1)) fails)

no_confirm : (site : Site) (kept : Retained) (done : List Done) (all : List Answer) (q : ℕ) (answer : Answer)
    → is_counted site kept done answer ≡ false → confirms site kept done all q answer ≡ false
no_confirm site kept done all q answer uncounted =
    ap (λ b. b && (is_by_call_point site q answer.point || (is_detector site answer.point && coincides site kept done all q (rule_of (slice_get site.zones q)) answer))) uncounted

no_release : (site : Site) (kept : Retained) (done : List Done) (all : List Answer) (q : ℕ) (answer : Answer) (o : Option Rule)
    → is_counted site kept done answer ≡ false → releases_by site kept done all q o answer ≡ false
no_release site kept done all q answer None uncounted = no_confirm site kept done all q answer uncounted
no_release site kept done all q answer (Some Plain) uncounted = no_confirm site kept done all q answer uncounted
no_release site kept done all q answer (Some (A verify within)) uncounted = no_confirm site kept done all q answer uncounted
no_release site kept done all q answer (Some (B within)) uncounted = no_confirm site kept done all q answer uncounted
no_release site kept done all q answer (Some C) uncounted =
    ap (λ b. (b && is_by_call_point site q answer.point)
    || (b && pairs_up site q answer.point (λ other. list_any (is_second site kept done other answer) all))) uncounted

pub quiet_is : {site : Site} {kept : Retained} {panel : ℕ} {done : List Done} {all : List Answer} {decide : Decide}
    → DecidesFor site kept panel done all decide → (answer : Answer) → Fits site panel done all answer → is_alarm answer.heard ≡ false →
    (r : PointWatch) → r ≡ get_or decide.points answer.point r → (missing : Bool) → missing ≡ nat_le missing_askings r.silent →
    finding_by answer 0 0 0 0 missing ≡ finding_among site kept panel done all answer
quiet_is {site} {kept} {panel} {done} {all} {decide} stands answer fits quiet r e missing miss =
    let w = watched stands answer.point fits.own in
    let uncounted : is_counted site kept done answer ≡ false = ap (λ b. b && not (is_blocked site kept done answer.point answer.stamp.0)) quiet in
    same_finding answer 0 _ 0 _ 0 _ 0 _ missing _
    (no_mask site panel (λ q. is_counted site kept done answer && is_of site q answer.point)
    (λ q. ap (λ b. b && is_of site q answer.point) uncounted))
    (no_mask site panel (λ q. confirms site kept done all q answer) (λ q. no_confirm site kept done all q answer uncounted))
    (no_mask site panel (λ q. calls site kept done q answer) (λ q. ap (λ b. b && is_by_call_point site q answer.point) uncounted))
    (no_mask site panel (λ q. releases site kept done all q answer)
    (λ q. no_release site kept done all q answer (rule_of (slice_get site.zones q)) uncounted))
    (miss ∙ ap (λ (o : PointWatch). nat_le missing_askings o.silent) (read_is decide.points answer.point r w.watch e w.is_watch) ∙ sym
    (w.watches.silent missing_askings (omega arith)))
