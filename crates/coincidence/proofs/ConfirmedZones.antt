-- What is seen of an answer tells which zones it confirms and releases.
use Rattle.std.proofs.Common.{◌≡◌, ◌≢◌, ℕ, Bool, true, false, not, List, Option, Some, None, slice_get, ◌==◌, ◌&&◌, ◌||◌, is_some, refl, sym, ◌∙◌, ap, subst, arith}
use Rattle.std.specs.List.{list_any}
use Rattle.std.proofs.lemmas.Bool.{eqb-true, eq-eqb, ne_eqb}
use Rattle.tick_units.specs.declared.tick.Tick.{Tick}
use Rattle.site_types.specs.declared.site.Site.{Site}
use Rattle.site_types.specs.declared.point.Point.{Point as PointPlan}
use Rattle.site_types.specs.declared.zone.Zone.{Zone as ZonePlan}
use Rattle.site_types.specs.declared.answer.Answer.{Answer}
use Rattle.site_types.specs.declared.rule.Rule.{Rule}
use Rattle.site_types.specs.declared.rule.Rule.TheVariants.{Plain, A, B, C}
use Rattle.site_types.specs.declared.retained.Retained.{Retained}
use Rattle.site_types.specs.Done.{Done, floor_before}
use Rattle.coincidence_rules.specs.Places.{lies_in, is_of, is_call_point, is_manual, detects, is_detector, rule_of, partner_of, on_zone, on_partner, pairs_up}
use Rattle.coincidence_rules.specs.Counted.{is_counted}
use Rattle.coincidence_rules.specs.Confirmed.{is_second, is_near, is_uncancelled, is_verified, coincides, is_by_call_point, confirms}
use Rattle.coincidence_rules.specs.Alarm.{calls, has_second, releases_by, releases}
use Rattle.coincidence_rules.specs.Kept.{is_long, is_within, second_of}
use Rattle.coincidence_rules.specs.InOrder.{AreInOrder}
use Rattle.site_types.specs.Valid.{is_partner_type}
use Rattle.coincidence_rules.specs.Wired.{IsWired, HasPartner}
use Rattle.coincidence_rules.proofs.Seconds.{AreUpTo, near_by_second, uncancelled_by_second, any_by_second}
use Rattle.coincidence_rules.proofs.Verified.{verified_by_run}
use Rattle.coincidence.specs.declared.observation.Observation.{Observation}
use Rattle.coincidence.specs.Observations.{own_coincides, own_confirmed, own_released, partner_confirmed, partner_released, second_by, partner_second_of, Observes}

-- a point of a site, its zone, and what is seen of an answer of it among all answers
module _ (site : Site) (kept : Retained) (done : List Done) (all : List Answer) (answer : Answer) (point : PointPlan) (zone : ZonePlan) (seen :
    Observation) (wired : IsWired site)
    (is_point : slice_get site.points answer.point ≡ Some point) (is_zone : slice_get site.zones point.zone ≡ Some zone) (order : AreInOrder all)
    (late : AreUpTo answer.stamp.0 all) (observes : Observes site kept done all answer point zone seen) where
  abbrev place : ℕ
  place = point.zone

  of_is : (z : ℕ) → is_of site z answer.point ≡ (point.zone == z)
  of_is z = ap (lies_in z) is_point

  of_own : is_of site place answer.point ≡ true
  of_own = of_is place ∙ eq-eqb place place refl

  of_other : (z : ℕ) → z ≢ place → is_of site z answer.point ≡ false
  of_other z apart = of_is z ∙ ne_eqb place z (λ e. apart (sym e))

  by_hand : is_manual site answer.point ≡ seen.manual
  by_hand = ap is_call_point is_point ∙ sym observes.manual

  detector_is : is_detector site answer.point ≡ not seen.manual
  detector_is = ap detects is_point ∙ ap not (sym observes.manual)

  abbrev x : ℕ
  x = answer.stamp.0

  stamp_is : seen.stamp.0 ≡ x
  stamp_is = ap (λ (t : Tick). t.0) observes.stamp

  -- the partner is another zone, which has this one as its partner
  partner_apart : (other : ℕ) → zone.partner ≡ Some other → other ≢ place
  partner_apart other e = (wired.partners place other zone is_zone e).apart

  on_own_partner : (test : ℕ → Bool) → on_partner site place test ≡ on_zone test zone.partner
  on_own_partner test = ap (λ o. on_zone test (partner_of o)) is_zone

  of_partner_none : (o : Option ℕ) → zone.partner ≡ o → on_zone (λ z. is_of site z answer.point) o ≡ false
  of_partner_none None e = refl
  of_partner_none (Some other) e = of_other other (partner_apart other e)

  -- a pair for its own zone: with another point of it, or one of the partner
  pairs_own : (second : ℕ → Bool) → pairs_up site place answer.point second ≡ (second place || on_zone second zone.partner)
  pairs_own second =
      own (is_of site place answer.point) (second place) (on_partner site place second) (on_zone second zone.partner)
      (on_partner site place (λ z. is_of site z answer.point)) of_own (on_own_partner second)
      (on_own_partner (λ z. is_of site z answer.point) ∙ of_partner_none zone.partner refl)
    where
      own : (o s p q r : Bool) → o ≡ true → p ≡ q → r ≡ false → ((o && (s || p)) || (r && s)) ≡ (s || q)
      own true s true true false a b c = ends s
        where
          ends : (t : Bool) → ((t || true) || false) ≡ (t || true)
          ends true = refl
          ends false = refl
      own true s false false false a b c = ends s
        where
          ends : (t : Bool) → ((t || false) || false) ≡ (t || false)
          ends true = refl
          ends false = refl
      own true s true false r a b c = cc
      own true s false true r a b c = cc
      own true s true true true a b c = cc
      own true s false false true a b c = cc
      own false s p q r a b c = cc

  -- a pair for the partner: with a point of the partner
  pairs_partner : (other : ℕ) → zone.partner ≡ Some other → (second : ℕ → Bool) → pairs_up site other answer.point second ≡ second other
  pairs_partner other e second =
      theirs (is_of site other answer.point) (second other) (on_partner site other second) (on_partner site other (λ z. is_of site z answer.point))
      (of_other other (partner_apart other e)) back
    where
      has : HasPartner site place zone other
      has = wired.partners place other zone is_zone e

      back : on_partner site other (λ z. is_of site z answer.point) ≡ true
      back = ap (λ o. on_zone (λ z. is_of site z answer.point) (partner_of o)) has.is ∙ ap (on_zone (λ z. is_of site z answer.point)) has.back ∙
          of_own

      theirs : (o s p r : Bool) → o ≡ false → r ≡ true → ((o && (s || p)) || (r && s)) ≡ s
      theirs false s p true a b = refl
      theirs false s p false a b = cc
      theirs true s p r a b = cc

  -- no pair for another zone
  pairs_none : (z : ℕ) → z ≢ place → zone.partner ≢ Some z → (second : ℕ → Bool) → pairs_up site z answer.point second ≡ false
  pairs_none z apart no_partner second =
      none (is_of site z answer.point) (second z) (on_partner site z second) (on_partner site z (λ y. is_of site y answer.point)) (of_other z apart)
      (go (slice_get site.zones z) refl)
    where
      none : (o s p r : Bool) → o ≡ false → r ≡ false → ((o && (s || p)) || (r && s)) ≡ false
      none false s p false a b = refl
      none false s p true a b = cc
      none true s p r a b = cc

      same_zone : (y w : ZonePlan) → Some y ≡ Some w → y ≡ w
      same_zone y w e = cc

      of_partner : (q : ℕ) (y : ZonePlan) → slice_get site.zones z ≡ Some y → y.partner ≡ Some q → (b : Bool) → is_of site q answer.point ≡ b
          → b ≡ false
      of_partner q y is e false h = refl
      of_partner q y is e true h =
          let own : place ≡ q = eqb-true place q (sym (of_is q) ∙ h) in
          let has = wired.partners z q y is e in
          let same : has.partner ≡ zone = same_zone has.partner zone (sym has.is ∙ ap (slice_get site.zones) (sym own) ∙ is_zone) in
          absurd (no_partner (ap (λ (w : ZonePlan). w.partner) (sym same) ∙ has.back))

      by_partner : (o : Option ℕ) (y : ZonePlan) → slice_get site.zones z ≡ Some y → y.partner ≡ o
          → on_zone (λ w. is_of site w answer.point) o ≡ false
      by_partner None y is e = refl
      by_partner (Some q) y is e = of_partner q y is e (is_of site q answer.point) refl

      go : (o : Option ZonePlan) → slice_get site.zones z ≡ o → on_partner site z (λ w. is_of site w answer.point) ≡ false
      go None e = ap (λ o. on_zone (λ w. is_of site w answer.point) (partner_of o)) e
      go (Some y) e = ap (λ o. on_zone (λ w. is_of site w answer.point) (partner_of o)) e ∙ by_partner y.partner y e refl

  -- what the rule asks of the answer for its own zone
  own_second_is : (rule : Rule) → zone.rule ≡ rule → seen.own_second ≡ second_of site kept done all place rule answer
  own_second_is rule e = observes.own_second ∙ ap (λ r. second_of site kept done all place r answer) e

  partner_second_is : (other : ℕ) → zone.partner ≡ Some other → (y : ZonePlan) → slice_get site.zones other ≡ Some y
      → seen.partner_second ≡ second_of site kept done all other y.rule answer
  partner_second_is other e y is = observes.partner_second ∙ ap (λ o. partner_second_of site kept done all o answer) e ∙ ap (λ o. second_by site kept done all other o answer) is

  no_partner_second : zone.partner ≡ None → seen.partner_second ≡ None
  no_partner_second e = observes.partner_second ∙ ap (λ o. partner_second_of site kept done all o answer) e

  partner_B : (own : ℕ) (other : Rule) → is_partner_type (B own) other ≡ true → (w : ℕ) × (other ≡ B w)
  partner_B own Plain h = cc
  partner_B own (A v w) h = cc
  partner_B own (B w) h = (w, refl)
  partner_B own C h = cc

  partner_C : (other : Rule) → is_partner_type C other ≡ true → other ≡ C
  partner_C Plain h = cc
  partner_C (A v w) h = cc
  partner_C (B w) h = cc
  partner_C C h = refl

  partner_second_B : (within : ℕ) → zone.rule ≡ B within → (limit : ℕ) (o : Option ℕ) → zone.partner ≡ o
      → is_within limit seen.stamp.0 seen.partner_second ≡ on_zone (λ z. list_any (is_uncancelled site kept done limit z answer) all) o
  partner_second_B within rule limit None e = ap (is_within limit seen.stamp.0) (no_partner_second e)
  partner_second_B within rule limit (Some other) e =
      let has = wired.partners place other zone is_zone e in
      let type = partner_B within has.partner.rule (subst (λ r. is_partner_type r has.partner.rule ≡ true) rule has.type) in
      ap (is_within limit seen.stamp.0) (partner_second_is other e has.partner has.is ∙ ap (λ r. second_of site kept done all other r answer) type.1)
      ∙ ap (λ t. is_within limit t (second_of site kept done all other (B type.0) answer)) stamp_is
      ∙ uncancelled_by_second site kept done all type.0 limit other answer order late

  partner_second_C : zone.rule ≡ C → (o : Option ℕ) → zone.partner ≡ o → is_some seen.partner_second ≡ on_zone (λ z. list_any (is_second site kept done z answer) all) o
  partner_second_C rule None e = ap is_some (no_partner_second e)
  partner_second_C rule (Some other) e =
      let has = wired.partners place other zone is_zone e in
      let type = partner_C has.partner.rule (subst (λ r. is_partner_type r has.partner.rule ≡ true) rule has.type) in
      ap is_some (partner_second_is other e has.partner has.is ∙ ap (λ r. second_of site kept done all other r answer) type) ∙ any_by_second site kept done all
      other answer order late

  coincides_is : (rule : Rule) → zone.rule ≡ rule → own_coincides rule seen ≡ coincides site kept done all place (Some rule) answer
  coincides_is Plain e = sym of_own
  coincides_is C e = sym of_own
  coincides_is (A verify within) e =
      ap (λ b. is_long verify seen.floor.0 seen.stamp.0 seen.run || b)
      (ap (is_within within seen.stamp.0) (own_second_is (A verify within) e) ∙ ap
      (λ t. is_within within t (second_of site kept done all place (A verify within) answer)) stamp_is ∙ near_by_second site kept done all verify
      within place answer order late)
      ∙ ap (λ b. b || list_any (is_near site kept done within place answer) all)
      (ap (λ f. is_long verify f seen.stamp.0 seen.run) observes.floor ∙ ap (λ t. is_long verify (floor_before site place x done) t seen.run) stamp_is
      ∙ ap (is_long verify (floor_before site place x done) x) observes.run ∙ sym (verified_by_run site kept done verify place answer all order late))
      ∙ ap (λ b. b && (is_verified site kept done all verify place answer || list_any (is_near site kept done within place answer) all)) (sym of_own)
  coincides_is (B within) e =
      ap (λ b. b || is_within within seen.stamp.0 seen.partner_second)
      (ap (is_within within seen.stamp.0) (own_second_is (B within) e) ∙ ap
      (λ t. is_within within t (second_of site kept done all place (B within) answer)) stamp_is ∙ uncancelled_by_second site kept done all within
      within place answer order late)
      ∙ ap (λ b. list_any (is_uncancelled site kept done within place answer) all || b) (partner_second_B within e within zone.partner refl)
      ∙ sym (pairs_own (λ z. list_any (is_uncancelled site kept done within z answer) all))

  rule_is : rule_of (slice_get site.zones place) ≡ Some zone.rule
  rule_is = ap rule_of is_zone

  hand_or : (o d m c : Bool) → o ≡ true → d ≡ not m → (m || c) ≡ ((o && m) || (d && c))
  hand_or true true false c a b = refl
  hand_or true false true c a b = refl
  hand_or true true true c a b = cc
  hand_or true false false c a b = cc
  hand_or false d m c a b = cc

  pub own_confirmed_is : own_confirmed zone.rule seen ≡ confirms site kept done all place answer
  own_confirmed_is =
      ap (λ b. b && (seen.manual || own_coincides zone.rule seen)) observes.counted
      ∙ ap (λ b. is_counted site kept done answer && (seen.manual || b)) (coincides_is zone.rule refl)
      ∙ ap (λ b. is_counted site kept done answer && b)
      (hand_or (is_of site place answer.point) (is_detector site answer.point) seen.manual
      (coincides site kept done all place (Some zone.rule) answer) of_own detector_is)
      ∙ ap (λ m. is_counted site kept done answer
      && ((is_of site place answer.point && m) || (is_detector site answer.point && coincides site kept done all place (Some zone.rule) answer)))
      (sym by_hand)
      ∙ ap (λ r. is_counted site kept done answer
      && (is_by_call_point site place answer.point || (is_detector site answer.point && coincides site kept done all place r answer)))
      (sym rule_is)

  own_released_by : (rule : Rule) → zone.rule ≡ rule → own_released rule seen ≡ releases_by site kept done all place (Some rule) answer
  own_released_by Plain e = ap (λ r. own_confirmed r seen) (sym e) ∙ own_confirmed_is
  own_released_by (A verify within) e = ap (λ r. own_confirmed r seen) (sym e) ∙ own_confirmed_is
  own_released_by (B within) e = ap (λ r. own_confirmed r seen) (sym e) ∙ own_confirmed_is
  own_released_by C e =
      ap (λ b. b && (seen.manual || (is_some seen.own_second || is_some seen.partner_second))) observes.counted
      ∙ ap (λ b. is_counted site kept done answer && (seen.manual || (b || is_some seen.partner_second)))
      (ap is_some (own_second_is C e) ∙ any_by_second site kept done all place answer order late)
      ∙ ap (λ b. is_counted site kept done answer && (seen.manual || (list_any (is_second site kept done place answer) all || b)))
      (partner_second_C e zone.partner refl)
      ∙ ap (λ b. is_counted site kept done answer && (seen.manual || b)) (sym (pairs_own (λ z. list_any (is_second site kept done z answer) all)))
      ∙ ap (λ m. is_counted site kept done answer && (m || pairs_up site place answer.point (λ z. list_any (is_second site kept done z answer) all)))
      (sym by_hand)
      ∙ ap (λ o. is_counted site kept done answer
      && ((o && is_manual site answer.point) || pairs_up site place answer.point (λ z. list_any (is_second site kept done z answer) all)))
      (sym of_own)
      ∙ spread (is_counted site kept done answer) (is_by_call_point site place answer.point)
      (pairs_up site place answer.point (λ z. list_any (is_second site kept done z answer) all))
    where
      spread : (c h p : Bool) → (c && (h || p)) ≡ ((c && h) || (c && p))
      spread true h p = refl
      spread false h p = refl

  pub own_released_is : own_released zone.rule seen ≡ releases site kept done all place answer
  own_released_is = own_released_by zone.rule refl ∙ ap (λ r. releases_by site kept done all place r answer) (sym rule_is)

  -- what it means for the partner
  partner_hand : (o d m c : Bool) → o ≡ false → d ≡ not m → (not m && c) ≡ ((o && m) || (d && c))
  partner_hand false d m c a b = ap (λ e. e && c) (sym b)
  partner_hand true d m c a b = cc

  counted_none : (c o d e h : Bool) → o ≡ false → e ≡ false → (c && ((o && h) || (d && e))) ≡ false
  counted_none c o d e h a b = grind arith

  partner_confirmed_by : (other : ℕ) → zone.partner ≡ Some other → (y : ZonePlan) → slice_get site.zones other ≡ Some y → (rule : Rule)
      → y.rule ≡ rule → is_partner_type zone.rule rule ≡ true
      → partner_confirmed rule seen
      ≡ (is_counted site kept done answer
      && (is_by_call_point site other answer.point || (is_detector site answer.point && coincides site kept done all other (Some rule) answer)))
  partner_confirmed_by other e y is Plain r t = absurd (none zone.rule t)
    where
      none : (own : Rule) → is_partner_type own Plain ≡ true → ⊥
      none Plain h = cc
      none (A v w) h = cc
      none (B w) h = cc
      none C h = cc
  partner_confirmed_by other e y is (A verify within) r t = absurd (none zone.rule t)
    where
      none : (own : Rule) → is_partner_type own (A verify within) ≡ true → ⊥
      none Plain h = cc
      none (A v w) h = cc
      none (B w) h = cc
      none C h = cc
  partner_confirmed_by other e y is C r t =
      sym (counted_none (is_counted site kept done answer) (is_of site other answer.point) (is_detector site answer.point)
      (is_of site other answer.point) (is_manual site answer.point) (of_other other (partner_apart other e))
      (of_other other (partner_apart other e)))
  partner_confirmed_by other e y is (B within) r t =
      ap (λ b. b && (not seen.manual && is_within within seen.stamp.0 seen.partner_second)) observes.counted
      ∙ ap (λ b. is_counted site kept done answer && (not seen.manual && b))
      (ap (is_within within seen.stamp.0) (partner_second_is other e y is ∙ ap (λ q. second_of site kept done all other q answer) r) ∙ ap
      (λ s. is_within within s (second_of site kept done all other (B within) answer)) stamp_is
      ∙ uncancelled_by_second site kept done all within within other answer order late ∙ sym
      (pairs_partner other e (λ z. list_any (is_uncancelled site kept done within z answer) all)))
      ∙ ap (λ b. is_counted site kept done answer && b) (partner_hand (is_of site other answer.point) (is_detector site answer.point) seen.manual
      (coincides site kept done all other (Some (B within)) answer) (of_other other (partner_apart other e)) detector_is)
      ∙ ap (λ m. is_counted site kept done answer
      && ((is_of site other answer.point && m) || (is_detector site answer.point && coincides site kept done all other (Some (B within)) answer)))
      (sym by_hand)

  pub partner_confirmed_is : (other : ℕ) → zone.partner ≡ Some other → (y : ZonePlan) → slice_get site.zones other ≡ Some y
      → is_partner_type zone.rule y.rule ≡ true → partner_confirmed y.rule seen ≡ confirms site kept done all other answer
  partner_confirmed_is other e y is t =
      partner_confirmed_by other e y is y.rule refl t
      ∙ ap (λ r. is_counted site kept done answer
      && (is_by_call_point site other answer.point || (is_detector site answer.point && coincides site kept done all other r answer)))
      (sym (ap rule_of is))

  partner_released_by : (other : ℕ) → zone.partner ≡ Some other → (y : ZonePlan) → slice_get site.zones other ≡ Some y
      → is_partner_type zone.rule y.rule ≡ true → (rule : Rule) → y.rule ≡ rule
      → partner_released rule seen ≡ releases_by site kept done all other (Some rule) answer
  partner_released_by other e y is t Plain r = ap (λ q. partner_confirmed q seen) (sym r) ∙ partner_confirmed_is other e y is t
  partner_released_by other e y is t (A verify within) r = ap (λ q. partner_confirmed q seen) (sym r) ∙ partner_confirmed_is other e y is t
  partner_released_by other e y is t (B within) r = ap (λ q. partner_confirmed q seen) (sym r) ∙ partner_confirmed_is other e y is t
  partner_released_by other e y is t C r =
      ap (λ b. b && is_some seen.partner_second) observes.counted
      ∙ ap (λ b. is_counted site kept done answer && b) (ap is_some (partner_second_is other e y is ∙ ap (λ q. second_of site kept done all other q answer) r) ∙
      any_by_second site kept done all other answer order late ∙ sym
      (pairs_partner other e (λ z. list_any (is_second site kept done z answer) all)))
      ∙ sym (only (is_counted site kept done answer) (is_of site other answer.point) (is_manual site answer.point)
      (has_second site kept done all other answer) (of_other other (partner_apart other e)))
    where
      only : (c o m h : Bool) → o ≡ false → ((c && (o && m)) || h) ≡ h
      only true false m h a = refl
      only false o m h a = refl
      only true true m h a = cc

  pub partner_released_is : (other : ℕ) → zone.partner ≡ Some other → (y : ZonePlan) → slice_get site.zones other ≡ Some y
      → is_partner_type zone.rule y.rule ≡ true → partner_released y.rule seen ≡ releases site kept done all other answer
  partner_released_is other e y is t =
      partner_released_by other e y is t y.rule refl ∙ ap (λ r. releases_by site kept done all other r answer) (sym (ap rule_of is))

  -- it means nothing for other zones
  none_coincides : (z : ℕ) → z ≢ place → zone.partner ≢ Some z → (rule : Option Rule) → coincides site kept done all z rule answer ≡ false
  none_coincides z apart no_partner None = refl
  none_coincides z apart no_partner (Some Plain) = of_other z apart
  none_coincides z apart no_partner (Some (A verify within)) =
      ap (λ b. b && (is_verified site kept done all verify z answer || list_any (is_near site kept done within z answer) all)) (of_other z apart)
  none_coincides z apart no_partner (Some (B within)) =
      pairs_none z apart no_partner (λ y. list_any (is_uncancelled site kept done within y answer) all)
  none_coincides z apart no_partner (Some C) = of_other z apart

  pub none_confirmed : (z : ℕ) → z ≢ place → zone.partner ≢ Some z → confirms site kept done all z answer ≡ false
  none_confirmed z apart no_partner =
      counted_none (is_counted site kept done answer) (is_of site z answer.point) (is_detector site answer.point)
      (coincides site kept done all z (rule_of (slice_get site.zones z)) answer) (is_manual site answer.point) (of_other z apart)
      (none_coincides z apart no_partner (rule_of (slice_get site.zones z)))

  and_off : (a : Bool) {b : Bool} → b ≡ false → (a && b) ≡ false
  and_off true e = e
  and_off false e = refl

  pub none_called : (z : ℕ) → z ≢ place → calls site kept done z answer ≡ false
  none_called z apart = and_off (is_counted site kept done answer) (ap (λ b. b && is_manual site answer.point) (of_other z apart))

  pub none_counted : (z : ℕ) → z ≢ place → (is_counted site kept done answer && is_of site z answer.point) ≡ false
  none_counted z apart = and_off (is_counted site kept done answer) (of_other z apart)

  none_released_by : (z : ℕ) → z ≢ place → zone.partner ≢ Some z → (rule : Option Rule) → releases_by site kept done all z rule answer ≡ false
  none_released_by z apart no_partner None = none_confirmed z apart no_partner
  none_released_by z apart no_partner (Some Plain) = none_confirmed z apart no_partner
  none_released_by z apart no_partner (Some (A verify within)) = none_confirmed z apart no_partner
  none_released_by z apart no_partner (Some (B within)) = none_confirmed z apart no_partner
  none_released_by z apart no_partner (Some C) =
      ap (λ b. b || has_second site kept done all z answer) (none_called z apart)
      ∙ and_off (is_counted site kept done answer) (pairs_none z apart no_partner (λ y. list_any (is_second site kept done y answer) all))

  pub none_released : (z : ℕ) → z ≢ place → zone.partner ≢ Some z → releases site kept done all z answer ≡ false
  none_released z apart no_partner = none_released_by z apart no_partner (rule_of (slice_get site.zones z))

  -- and for its own zone: whether it counts, and is of a manual call point
  pub own_called : (is_counted site kept done answer && is_by_call_point site place answer.point) ≡ (seen.counted && seen.manual)
  own_called =
      ap (λ b. is_counted site kept done answer && (b && is_manual site answer.point)) of_own
      ∙ ap (λ m. is_counted site kept done answer && m) by_hand ∙ ap (λ b. b && seen.manual) (sym observes.counted)

  pub own_counted : (is_counted site kept done answer && is_of site place answer.point) ≡ seen.counted
  own_counted = ap (λ b. is_counted site kept done answer && b) of_own ∙ ends (is_counted site kept done answer) ∙ sym observes.counted
    where
      ends : (b : Bool) → (b && true) ≡ b
      ends true = refl
      ends false = refl
