-- What answers mean for zones is the same by two accounts that are alike for zones.
use Rattle.std.proofs.Common.{◌≡◌, ℕ, ◌+◌, ◌≤◌, Bool, true, false, not, List, Option, Some, None, slice_get, ◌==◌, ◌&&◌, ◌||◌, nat_lt}
use Rattle.std.proofs.Common.{nat_le, ◌∙◌, ap, refl, sym, arith, if◌then◌else◌}
use Rattle.std.specs.List.{list_any}
use Rattle.site_types.specs.declared.site.Site.{Site}
use Rattle.site_types.specs.declared.answer.Answer.{Answer}
use Rattle.site_types.specs.declared.rule.Rule.{Rule}
use Rattle.site_types.specs.declared.rule.Rule.TheVariants.{Plain, A, B, C}
use Rattle.site_types.specs.Done.{floor_before, cancelled_before}
use Rattle.coincidence_rules.specs.Places.{is_of, is_detector, rule_of, partner_of, on_zone, on_partner, pairs_up}
use Rattle.coincidence_rules.specs.Counted.{is_alarm, is_counted}
use Rattle.coincidence_rules.specs.Confirmed.{is_second, is_near, is_uncancelled, is_between, is_first_of_run, counts_throughout, is_verified}
use Rattle.coincidence_rules.specs.Confirmed.{coincides, is_by_call_point, confirms}
use Rattle.coincidence_rules.specs.Alarm.{calls, has_second, is_by_hand, is_in_alarm, is_released, releases, releases_by}
use Rattle.coincidence_rules.proofs.Lists.{any_same, all_same}
use Rattle.coincidence_rules.proofs.Seconds.{AreUpTo}
use Rattle.tick_units.specs.declared.task.Task.TheVariants.{Hold}
use Rattle.panel_rules.specs.Answers.{answers}
use Rattle.panel_rules.specs.Counts.{taken_by_hold}
use Rattle.panel_rules.specs.Kept.{kept_at, made_at}
use Rattle.panel_rules.specs.Moments.{Moment, latest_turn, tick_of}
use Rattle.panel_rules.specs.Zones.{held_answers, holds_alarm, holds_by_hand, holds_released}
use Rattle.panel_rules.proofs.KeptWords.{kept_is, made_is}
use Rattle.panel_rules.proofs.Lags.{stamped_by}
use Rattle.panel_rules.proofs.Places.{take_get}
use Rattle.panel_rules.proofs.Turns.{tick_rises}
use Rattle.panel_laws.proofs.FacesShow.{in_face}
use Rattle.panel_laws.proofs.LaterDone.{turn_in_time}
use Rattle.audit_laws.specs.AlikeZones.{Account, AreAlikeForZones, AlikeZonesAreShown}
use Rattle.audit_laws.specs.RecordedMoments.{without_failures}
use Rattle.audit_laws.proofs.MomentsTold.{kept_same, made_same, taken_same, turn_same}

on_zone_same : (f g : ℕ → Bool) (o : Option ℕ) → ((z : ℕ) → f z ≡ g z) → on_zone f o ≡ on_zone g o
on_zone_same f g None same = refl
on_zone_same f g (Some z) same = same z

module _ (site : Site) (one other : Account) (tick : ℕ) (alike : AreAlikeForZones site one other tick) where
  pub counted_alike : (a : Answer) → a.stamp.0 ≤ tick → is_counted site one.kept one.done a ≡ is_counted site other.kept other.done a
  counted_alike a le =
      ap (λ b. is_alarm a.heard && not b) (alike.blocked a.point a.stamp.0 le)

  floor_is : (zone x : ℕ) → x ≤ tick → floor_before site zone x one.done ≡ floor_before site zone x other.done
  floor_is zone x le = alike.floors zone x le

  second_alike : (zone : ℕ) (a o : Answer) → a.stamp.0 ≤ tick → o.stamp.0 ≤ tick
      → is_second site one.kept one.done zone a o ≡ is_second site other.kept other.done zone a o
  second_alike zone a o la lo =
      ap (λ b. ((is_of site zone o.point && b) && not (o.point == a.point))
      && (nat_lt (floor_before site zone a.stamp.0 one.done) o.stamp.0 && nat_le o.stamp.0 a.stamp.0)) (counted_alike o lo)
      ∙ ap (λ n. ((is_of site zone o.point && is_counted site other.kept other.done o) && not (o.point == a.point))
      && (nat_lt n o.stamp.0 && nat_le o.stamp.0 a.stamp.0)) (floor_is zone a.stamp.0 la)

  near_alike : (within zone : ℕ) (a o : Answer) → a.stamp.0 ≤ tick → o.stamp.0 ≤ tick
      → is_near site one.kept one.done within zone a o ≡ is_near site other.kept other.done within zone a o
  near_alike within zone a o la lo = ap (λ b. (b && is_detector site o.point) && nat_le a.stamp.0 (o.stamp.0 + within)) (second_alike zone a o la lo)

  uncancelled_alike : (within zone : ℕ) (a o : Answer) → a.stamp.0 ≤ tick → o.stamp.0 ≤ tick
      → is_uncancelled site one.kept one.done within zone a o ≡ is_uncancelled site other.kept other.done within zone a o
  uncancelled_alike within zone a o la lo =
      ap (λ b. b && nat_lt (cancelled_before zone a.stamp.0 one.done) o.stamp.0) (near_alike within zone a o la lo)
      ∙ ap (λ n. is_near site other.kept other.done within zone a o && nat_lt n o.stamp.0)
      (alike.cancellings zone a.stamp.0 la)

  module _ (answers : List Answer) (late : AreUpTo tick answers) where
    any_alike : (f g : Answer → Bool) → ((o : Answer) → o.stamp.0 ≤ tick → f o ≡ g o) → list_any f answers ≡ list_any g answers
    any_alike f g same = any_same f g answers (λ k o at. same o (late k o at))

    throughout_alike : (point first last : ℕ)
        → counts_throughout site one.kept one.done answers point first last ≡ counts_throughout site other.kept other.done answers point first last
    throughout_alike point first last =
        all_same _ _ answers (λ k o at. ap (λ b. not (is_between point first last o) || b) (counted_alike o (late k o at)))

    verified_alike : (verify zone : ℕ) (a : Answer) → a.stamp.0 ≤ tick
        → is_verified site one.kept one.done answers verify zone a ≡ is_verified site other.kept other.done answers verify zone a
    verified_alike verify zone a la =
        any_alike _ _ (λ o lo.
        ap (λ b. ((o.point == a.point) && b)
        && (nat_lt (floor_before site zone a.stamp.0 one.done) o.stamp.0 && nat_le (o.stamp.0 + verify) a.stamp.0)
        && counts_throughout site one.kept one.done answers a.point o.stamp.0 a.stamp.0) (counted_alike o lo)
        ∙ ap (λ n. ((o.point == a.point) && is_counted site other.kept other.done o) && (nat_lt n o.stamp.0 && nat_le (o.stamp.0 + verify) a.stamp.0)
        && counts_throughout site one.kept one.done answers a.point o.stamp.0 a.stamp.0) (floor_is zone a.stamp.0 la)
        ∙ ap (λ b. is_first_of_run site other.kept other.done verify zone a o && b) (throughout_alike a.point o.stamp.0 a.stamp.0))

    pairs_alike : (zone point : ℕ) (f g : ℕ → Bool) → ((z : ℕ) → f z ≡ g z) → pairs_up site zone point f ≡ pairs_up site zone point g
    pairs_alike zone point f g same =
        ap (λ b. (is_of site zone point && (b || on_partner site zone f)) || (on_partner site zone (λ z. is_of site z point) && f zone)) (same zone)
        ∙ ap (λ b. (is_of site zone point && (g zone || b)) || (on_partner site zone (λ z. is_of site z point) && f zone))
        (on_zone_same f g (partner_of (slice_get site.zones zone)) same)
        ∙ ap (λ b. (is_of site zone point && (g zone || on_partner site zone g)) || (on_partner site zone (λ z. is_of site z point) && b)) (same zone)

    coincides_alike : (zone : ℕ) (rule : Option Rule) (a : Answer) → a.stamp.0 ≤ tick
        → coincides site one.kept one.done answers zone rule a ≡ coincides site other.kept other.done answers zone rule a
    coincides_alike zone None a la = refl
    coincides_alike zone (Some Plain) a la = refl
    coincides_alike zone (Some C) a la = refl
    coincides_alike zone (Some (A verify within)) a la =
        ap (λ b. is_of site zone a.point && (b || list_any (is_near site one.kept one.done within zone a) answers)) (verified_alike verify zone a la)
        ∙ ap (λ b. is_of site zone a.point && (is_verified site other.kept other.done answers verify zone a || b))
        (any_alike _ _ (λ o lo. near_alike within zone a o la lo))
    coincides_alike zone (Some (B within)) a la =
        pairs_alike zone a.point (λ z. list_any (is_uncancelled site one.kept one.done within z a) answers)
        (λ z. list_any (is_uncancelled site other.kept other.done within z a) answers)
        (λ z. any_alike _ _ (λ o lo. uncancelled_alike within z a o la lo))

    pub confirms_alike : (zone : ℕ) (a : Answer) → a.stamp.0 ≤ tick
        → confirms site one.kept one.done answers zone a ≡ confirms site other.kept other.done answers zone a
    confirms_alike zone a la =
        ap (λ b. b && (is_by_call_point site zone a.point || (is_detector site a.point && coincides site one.kept one.done answers zone (rule_of (slice_get site.zones zone)) a))) (counted_alike a la)
        ∙ ap (λ b. is_counted site other.kept other.done a && (is_by_call_point site zone a.point || (is_detector site a.point && b)))
        (coincides_alike zone (rule_of (slice_get site.zones zone)) a la)

    pub calls_alike : (zone : ℕ) (a : Answer) → a.stamp.0 ≤ tick → calls site one.kept one.done zone a ≡ calls site other.kept other.done zone a
    calls_alike zone a la = ap (λ b. b && is_by_call_point site zone a.point) (counted_alike a la)

    has_second_alike : (zone : ℕ) (a : Answer) → a.stamp.0 ≤ tick
        → has_second site one.kept one.done answers zone a ≡ has_second site other.kept other.done answers zone a
    has_second_alike zone a la =
        ap (λ b. b && pairs_up site zone a.point (λ z. list_any (is_second site one.kept one.done z a) answers)) (counted_alike a la)
        ∙ ap (λ b. is_counted site other.kept other.done a && b)
        (pairs_alike zone a.point (λ z. list_any (is_second site one.kept one.done z a) answers) (λ z. list_any (is_second site other.kept other.done z a) answers)
        (λ z. any_alike _ _ (λ o lo. second_alike z a o la lo)))

    releases_by_alike : (zone : ℕ) (rule : Option Rule) (a : Answer) → a.stamp.0 ≤ tick
        → releases_by site one.kept one.done answers zone rule a ≡ releases_by site other.kept other.done answers zone rule a
    releases_by_alike zone None a la = confirms_alike zone a la
    releases_by_alike zone (Some Plain) a la = confirms_alike zone a la
    releases_by_alike zone (Some (A verify within)) a la = confirms_alike zone a la
    releases_by_alike zone (Some (B within)) a la = confirms_alike zone a la
    releases_by_alike zone (Some C) a la =
        ap (λ b. b || has_second site one.kept one.done answers zone a) (calls_alike zone a la) ∙ ap (λ b. calls site other.kept other.done zone a || b)
        (has_second_alike zone a la)

    pub releases_alike : (zone : ℕ) (a : Answer) → a.stamp.0 ≤ tick
        → releases site one.kept one.done answers zone a ≡ releases site other.kept other.done answers zone a
    releases_alike zone a la = releases_by_alike zone (rule_of (slice_get site.zones zone)) a la

  -- and of the zones in alarm up to that tick
  since_alike : (answers : List Answer) → AreUpTo tick answers → (zone x : ℕ) → x ≤ tick → (f g : Answer → Bool)
      → ((o : Answer) → o.stamp.0 ≤ tick → f o ≡ g o)
      → list_any (λ a. nat_lt (floor_before site zone x one.done) a.stamp.0 && f a) answers
      ≡ list_any (λ a. nat_lt (floor_before site zone x other.done) a.stamp.0 && g a) answers
  since_alike answers late zone x le f g same =
      any_alike answers late _ _
      (λ o lo. ap (λ n. nat_lt n o.stamp.0 && f o) (floor_is zone x le) ∙ ap (λ b. nat_lt (floor_before site zone x other.done) o.stamp.0 && b)
      (same o lo))

  pub in_alarm_alike : (answers : List Answer) → AreUpTo tick answers → (zone x : ℕ) → x ≤ tick
      → is_in_alarm site one.kept one.done answers zone x ≡ is_in_alarm site other.kept other.done answers zone x
  in_alarm_alike answers late zone x le =
      since_alike answers late zone x le (confirms site one.kept one.done answers zone) (confirms site other.kept other.done answers zone)
      (λ o lo. confirms_alike answers late zone o lo)

  pub by_hand_alike : (answers : List Answer) → AreUpTo tick answers → (zone x : ℕ) → x ≤ tick
      → is_by_hand site one.kept one.done answers zone x ≡ is_by_hand site other.kept other.done answers zone x
  by_hand_alike answers late zone x le =
      since_alike answers late zone x le (calls site one.kept one.done zone) (calls site other.kept other.done zone) (λ o lo. calls_alike answers late zone o lo)

  pub released_alike : (answers : List Answer) → AreUpTo tick answers → (zone x : ℕ) → x ≤ tick
      → is_released site one.kept one.done answers zone x ≡ is_released site other.kept other.done answers zone x
  released_alike answers late zone x le =
      since_alike answers late zone x le (releases site one.kept one.done answers zone) (releases site other.kept other.done answers zone)
      (λ o lo. releases_alike answers late zone o lo)

-- ---- over a run

module _ (site : Site) (one other : Account) (limit : ℕ) (alike : AreAlikeForZones site one other limit) where
  late : (panel : ℕ) (word : List Moment) → tick_of word ≤ limit → AreUpTo limit (held_answers site panel word)
  late panel word by k a is =
      omega (arith, by, stamped_by site panel word k a (take_get (taken_by_hold site panel word) (answers site panel word) k a is).1)

  turned : (panel : ℕ) (word : List Moment) → tick_of word ≤ limit → latest_turn panel Hold word ≤ limit
  turned panel word by = omega (arith, by, turn_in_time panel Hold word)

  -- a word tells the same of a zone: that it is in alarm, by hand, and released
  pub told_alike : (panel zone : ℕ) (word : List Moment) → tick_of word ≤ limit
      → holds_alarm site one.kept one.done panel (without_failures word) zone ≡ holds_alarm site other.kept other.done panel word zone
  told_alike panel zone word by =
      ap (λ (xs : List Answer). is_in_alarm site one.kept one.done xs zone (latest_turn panel Hold (without_failures word))) (taken_same site panel word)
      ∙ ap (is_in_alarm site one.kept one.done (held_answers site panel word) zone) (turn_same panel Hold word)
      ∙ in_alarm_alike site one other limit alike (held_answers site panel word) (late panel word by) zone (latest_turn panel Hold word)
      (turned panel word by)

  pub hand_told_alike : (panel zone : ℕ) (word : List Moment) → tick_of word ≤ limit
      → holds_by_hand site one.kept one.done panel (without_failures word) zone ≡ holds_by_hand site other.kept other.done panel word zone
  hand_told_alike panel zone word by =
      ap (λ (xs : List Answer). is_by_hand site one.kept one.done xs zone (latest_turn panel Hold (without_failures word))) (taken_same site panel word)
      ∙ ap (is_by_hand site one.kept one.done (held_answers site panel word) zone) (turn_same panel Hold word)
      ∙ by_hand_alike site one other limit alike (held_answers site panel word) (late panel word by) zone (latest_turn panel Hold word)
      (turned panel word by)

  pub release_told_alike : (panel zone : ℕ) (word : List Moment) → tick_of word ≤ limit
      → holds_released site one.kept one.done panel (without_failures word) zone ≡ holds_released site other.kept other.done panel word zone
  release_told_alike panel zone word by =
      ap (λ (xs : List Answer). is_released site one.kept one.done xs zone (latest_turn panel Hold (without_failures word))) (taken_same site panel word)
      ∙ ap (is_released site one.kept one.done (held_answers site panel word) zone) (turn_same panel Hold word)
      ∙ released_alike site one other limit alike (held_answers site panel word) (late panel word by) zone (latest_turn panel Hold word)
      (turned panel word by)

module _ (site : Site) (one other : Account) (m : List Moment) (alike : AreAlikeForZones site one other (tick_of m)) where
  -- the word that is shown of a panel
  shown_alike : (panel source zone : ℕ)
      → holds_alarm site one.kept one.done source
      (if source == panel then made_at panel (without_failures m) else kept_at site.panels panel source (without_failures m)) zone
      ≡ holds_alarm site other.kept other.done source (if source == panel then made_at panel m else kept_at site.panels panel source m) zone
  shown_alike panel source zone = by (source == panel)
    where
      by : (b : Bool)
          → holds_alarm site one.kept one.done source (if b then made_at panel (without_failures m) else kept_at site.panels panel source (without_failures m)) zone
          ≡ holds_alarm site other.kept other.done source (if b then made_at panel m else kept_at site.panels panel source m) zone
      by true =
          ap (λ (word : List Moment). holds_alarm site one.kept one.done source word zone) (made_same panel m)
          ∙ told_alike site one other (tick_of m) alike source zone (made_at panel m) (tick_rises (made_at panel m) m (made_is panel m).past)
      by false =
          ap (λ (word : List Moment). holds_alarm site one.kept one.done source word zone) (kept_same site.panels panel source m)
          ∙ told_alike site one other (tick_of m) alike source zone (kept_at site.panels panel source m)
          (tick_rises (kept_at site.panels panel source m) m (kept_is site.panels panel source m).past)

pub zones_alike : AlikeZonesAreShown
zones_alike site one other stored also_stored m panel place plan valid is alike =
    in_face site one.kept one.done valid place plan is panel (without_failures m)
    ∙ shown_alike site one other m alike panel plan.panel place
    ∙ sym (in_face site other.kept other.done valid place plan is panel m)
