-- Operations done at a tick or later change nothing of what the answers stamped up to that tick mean.
use Rattle.std.proofs.Common.{◌≡◌, inl, inr, ℕ, zero, suc, ◌+◌, ◌≤◌, Bool, not, List, [], ◌∷◌, ◌++◌, Option, Some, None, slice_get, ◌==◌, ◌&&◌, ◌||◌, nat_lt, nat_le, refl, ◌∙◌, ap, subst, arith}
use Rattle.std.specs.List.{list_any}
use Rattle.tick_units.specs.declared.tick.Tick.{Tick}
use Rattle.site_types.specs.declared.site.Site.{Site}
use Rattle.site_types.specs.declared.answer.Answer.{Answer}
use Rattle.site_types.specs.declared.rule.Rule.{Rule}
use Rattle.site_types.specs.declared.rule.Rule.TheVariants.{Plain, A, B, C}
use Rattle.site_types.specs.declared.retained.Retained.{Retained}
use Rattle.site_types.specs.Done.{Done, floor_before, cancelled_before}
use Rattle.site_types.proofs.LaterDone.{AreFrom}
use Rattle.site_types.proofs.Done.{blocked-later, floor-later, cancelled-later}
use Rattle.site_types.proofs.Masks.{mask_same}
use Rattle.coincidence_rules.specs.declared.finding.Finding.{Finding}
use Rattle.coincidence_rules.specs.Places.{is_of, is_detector, rule_of, partner_of, on_zone, on_partner, pairs_up, numbered, zones_where}
use Rattle.coincidence_rules.specs.Counted.{is_alarm, is_counted}
use Rattle.coincidence_rules.specs.Confirmed.{is_second, is_near, is_uncancelled, is_between, is_first_of_run, counts_throughout, is_verified, coincides, is_by_call_point, confirms}
use Rattle.coincidence_rules.specs.Alarm.{calls, has_second, releases_by, releases, is_in_alarm, is_by_hand, is_released}
use Rattle.coincidence_rules.specs.First.{tells_first, is_first_by, is_first}
use Rattle.coincidence_rules.specs.Missing.{is_missing}
use Rattle.coincidence_rules.specs.Findings.{finding_among, finding_of, findings_after}
use Rattle.coincidence_rules.proofs.Lists.{any_same, all_same, get_either}
use Rattle.coincidence_rules.proofs.Seconds.{AreUpTo}

pub from_earlier : (x t : ℕ) (new : List Done) → x ≤ t → AreFrom t new → AreFrom x new
from_earlier x t [] le h = tt
from_earlier x t (d ∷ ds) le h = (omega (arith, le, h.0), from_earlier x t ds le h.1)

pub zones_same : (site : Site) (panel : ℕ) (f g : ℕ → Bool) → ((z : ℕ) → f z ≡ g z) → zones_where site panel f ≡ zones_where site panel g
unfolding zones_where
zones_same site panel f g same =
    mask_same 32 (λ k. on_zone f (numbered site panel (k + 1))) (λ k. on_zone g (numbered site panel (k + 1)))
    (λ k small. on_same (numbered site panel (k + 1)))
  where
    on_same : (o : Option ℕ) → on_zone f o ≡ on_zone g o
    on_same None = refl
    on_same (Some z) = same z

on_zone_same : (f g : ℕ → Bool) (o : Option ℕ) → ((z : ℕ) → f z ≡ g z) → on_zone f o ≡ on_zone g o
on_zone_same f g None same = refl
on_zone_same f g (Some z) same = same z

module _ (site : Site) (kept : Retained) (new old : List Done) (tick : ℕ) (from : AreFrom tick new) where
  pub counted-later : (a : Answer) → a.stamp.0 ≤ tick → is_counted site kept (new ++ old) a ≡ is_counted site kept old a
  counted-later a le =
      ap (λ b. is_alarm a.heard && not b) (blocked-later site kept a.point a.stamp.0 new old (from_earlier a.stamp.0 tick new le from))

  floor_is : (zone x : ℕ) → x ≤ tick → floor_before site zone x (new ++ old) ≡ floor_before site zone x old
  floor_is zone x le = floor-later site zone x new old (from_earlier x tick new le from)

  second-later : (zone : ℕ) (a o : Answer) → a.stamp.0 ≤ tick → o.stamp.0 ≤ tick
      → is_second site kept (new ++ old) zone a o ≡ is_second site kept old zone a o
  second-later zone a o la lo =
      ap (λ b. ((is_of site zone o.point && b) && not (o.point == a.point))
      && (nat_lt (floor_before site zone a.stamp.0 (new ++ old)) o.stamp.0 && nat_le o.stamp.0 a.stamp.0)) (counted-later o lo)
      ∙ ap (λ n. ((is_of site zone o.point && is_counted site kept old o) && not (o.point == a.point))
      && (nat_lt n o.stamp.0 && nat_le o.stamp.0 a.stamp.0)) (floor_is zone a.stamp.0 la)

  near-later : (within zone : ℕ) (a o : Answer) → a.stamp.0 ≤ tick → o.stamp.0 ≤ tick
      → is_near site kept (new ++ old) within zone a o ≡ is_near site kept old within zone a o
  near-later within zone a o la lo = ap (λ b. (b && is_detector site o.point) && nat_le a.stamp.0 (o.stamp.0 + within)) (second-later zone a o la lo)

  uncancelled-later : (within zone : ℕ) (a o : Answer) → a.stamp.0 ≤ tick → o.stamp.0 ≤ tick
      → is_uncancelled site kept (new ++ old) within zone a o ≡ is_uncancelled site kept old within zone a o
  uncancelled-later within zone a o la lo =
      ap (λ b. b && nat_lt (cancelled_before zone a.stamp.0 (new ++ old)) o.stamp.0) (near-later within zone a o la lo)
      ∙ ap (λ n. is_near site kept old within zone a o && nat_lt n o.stamp.0)
      (cancelled-later zone a.stamp.0 new old (from_earlier a.stamp.0 tick new la from))

  module _ (answers : List Answer) (late : AreUpTo tick answers) where
    any-later : (f g : Answer → Bool) → ((o : Answer) → o.stamp.0 ≤ tick → f o ≡ g o) → list_any f answers ≡ list_any g answers
    any-later f g same = any_same f g answers (λ k o at. same o (late k o at))

    throughout-later : (point first last : ℕ)
        → counts_throughout site kept (new ++ old) answers point first last ≡ counts_throughout site kept old answers point first last
    throughout-later point first last =
        all_same _ _ answers (λ k o at. ap (λ b. not (is_between point first last o) || b) (counted-later o (late k o at)))

    verified-later : (verify zone : ℕ) (a : Answer) → a.stamp.0 ≤ tick
        → is_verified site kept (new ++ old) answers verify zone a ≡ is_verified site kept old answers verify zone a
    verified-later verify zone a la =
        any-later _ _ (λ o lo.
        ap (λ b. ((o.point == a.point) && b)
        && (nat_lt (floor_before site zone a.stamp.0 (new ++ old)) o.stamp.0 && nat_le (o.stamp.0 + verify) a.stamp.0)
        && counts_throughout site kept (new ++ old) answers a.point o.stamp.0 a.stamp.0) (counted-later o lo)
        ∙ ap (λ n. ((o.point == a.point) && is_counted site kept old o) && (nat_lt n o.stamp.0 && nat_le (o.stamp.0 + verify) a.stamp.0)
        && counts_throughout site kept (new ++ old) answers a.point o.stamp.0 a.stamp.0) (floor_is zone a.stamp.0 la)
        ∙ ap (λ b. is_first_of_run site kept old verify zone a o && b) (throughout-later a.point o.stamp.0 a.stamp.0))

    pairs-later : (zone point : ℕ) (f g : ℕ → Bool) → ((z : ℕ) → f z ≡ g z) → pairs_up site zone point f ≡ pairs_up site zone point g
    pairs-later zone point f g same =
        ap (λ b. (is_of site zone point && (b || on_partner site zone f)) || (on_partner site zone (λ z. is_of site z point) && f zone)) (same zone)
        ∙ ap (λ b. (is_of site zone point && (g zone || b)) || (on_partner site zone (λ z. is_of site z point) && f zone))
        (on_zone_same f g (partner_of (slice_get site.zones zone)) same)
        ∙ ap (λ b. (is_of site zone point && (g zone || on_partner site zone g)) || (on_partner site zone (λ z. is_of site z point) && b)) (same zone)

    coincides-later : (zone : ℕ) (rule : Option Rule) (a : Answer) → a.stamp.0 ≤ tick
        → coincides site kept (new ++ old) answers zone rule a ≡ coincides site kept old answers zone rule a
    coincides-later zone None a la = refl
    coincides-later zone (Some Plain) a la = refl
    coincides-later zone (Some C) a la = refl
    coincides-later zone (Some (A verify within)) a la =
        ap (λ b. is_of site zone a.point && (b || list_any (is_near site kept (new ++ old) within zone a) answers)) (verified-later verify zone a la)
        ∙ ap (λ b. is_of site zone a.point && (is_verified site kept old answers verify zone a || b))
        (any-later _ _ (λ o lo. near-later within zone a o la lo))
    coincides-later zone (Some (B within)) a la =
        pairs-later zone a.point (λ z. list_any (is_uncancelled site kept (new ++ old) within z a) answers)
        (λ z. list_any (is_uncancelled site kept old within z a) answers)
        (λ z. any-later _ _ (λ o lo. uncancelled-later within z a o la lo))

    pub confirms-later : (zone : ℕ) (a : Answer) → a.stamp.0 ≤ tick
        → confirms site kept (new ++ old) answers zone a ≡ confirms site kept old answers zone a
    confirms-later zone a la =
        ap (λ b. b && (is_by_call_point site zone a.point || (is_detector site a.point && coincides site kept (new ++ old) answers zone (rule_of (slice_get site.zones zone)) a))) (counted-later a la)
        ∙ ap (λ b. is_counted site kept old a && (is_by_call_point site zone a.point || (is_detector site a.point && b)))
        (coincides-later zone (rule_of (slice_get site.zones zone)) a la)

    pub calls-later : (zone : ℕ) (a : Answer) → a.stamp.0 ≤ tick → calls site kept (new ++ old) zone a ≡ calls site kept old zone a
    calls-later zone a la = ap (λ b. b && is_by_call_point site zone a.point) (counted-later a la)

    has_second-later : (zone : ℕ) (a : Answer) → a.stamp.0 ≤ tick
        → has_second site kept (new ++ old) answers zone a ≡ has_second site kept old answers zone a
    has_second-later zone a la =
        ap (λ b. b && pairs_up site zone a.point (λ z. list_any (is_second site kept (new ++ old) z a) answers)) (counted-later a la)
        ∙ ap (λ b. is_counted site kept old a && b)
        (pairs-later zone a.point (λ z. list_any (is_second site kept (new ++ old) z a) answers) (λ z. list_any (is_second site kept old z a) answers)
        (λ z. any-later _ _ (λ o lo. second-later z a o la lo)))

    releases_by-later : (zone : ℕ) (rule : Option Rule) (a : Answer) → a.stamp.0 ≤ tick
        → releases_by site kept (new ++ old) answers zone rule a ≡ releases_by site kept old answers zone rule a
    releases_by-later zone None a la = confirms-later zone a la
    releases_by-later zone (Some Plain) a la = confirms-later zone a la
    releases_by-later zone (Some (A verify within)) a la = confirms-later zone a la
    releases_by-later zone (Some (B within)) a la = confirms-later zone a la
    releases_by-later zone (Some C) a la =
        ap (λ b. b || has_second site kept (new ++ old) answers zone a) (calls-later zone a la) ∙ ap (λ b. calls site kept old zone a || b)
        (has_second-later zone a la)

    pub releases-later : (zone : ℕ) (a : Answer) → a.stamp.0 ≤ tick
        → releases site kept (new ++ old) answers zone a ≡ releases site kept old answers zone a
    releases-later zone a la = releases_by-later zone (rule_of (slice_get site.zones zone)) a la

    same_finding : (stamp : Tick) (point c d f g m n r q : ℕ) (b : Bool) → c ≡ d → f ≡ g → m ≡ n → r ≡ q
        → ◌≡◌ {A = Finding} (record { stamp = stamp; point = point; counted = c; confirmed = f; manual = m; released = r; missing = b })
        (record { stamp = stamp; point = point; counted = d; confirmed = g; manual = n; released = q; missing = b })
    same_finding stamp point c d f g m n r q b e1 e2 e3 e4 = cc

    pub finding-later : (panel : ℕ) (a : Answer) → a.stamp.0 ≤ tick
        → finding_among site kept panel (new ++ old) answers a ≡ finding_among site kept panel old answers a
    finding-later panel a la =
        same_finding a.stamp a.point _ _ _ _ _ _ _ _ (is_missing answers a.point)
        (zones_same site panel _ _ (λ z. ap (λ b. b && is_of site z a.point) (counted-later a la)))
        (zones_same site panel _ _ (λ z. confirms-later z a la))
        (zones_same site panel _ _ (λ z. calls-later z a la))
        (zones_same site panel _ _ (λ z. releases-later z a la))

  up_to_more : (before : List Answer) (x : Answer) → AreUpTo tick before → x.stamp.0 ≤ tick → AreUpTo tick (before ++ x ∷ [])
  up_to_more before x late lx k a at = elim (get_either before (x ∷ []) k a at) [
    | inl left ↦ late k a left
    | inr right ↦ one right.0 right.2
  ]
    where
      one : (j : ℕ) → slice_get (x ∷ []) j ≡ Some a → a.stamp.0 ≤ tick
      one zero e = let s : x ≡ a = cc in subst (λ (y : Answer). y.stamp.0 ≤ tick) s lx
      one (suc j) e = cc

  pub findings-later : (panel : ℕ) (before answers : List Answer) → AreUpTo tick before → AreUpTo tick answers
      → findings_after site kept panel (new ++ old) before answers ≡ findings_after site kept panel old before answers
  findings-later panel before [] late all = refl
  findings-later panel before (x ∷ xs) late all =
      let more = up_to_more before x late (all 0 x refl) in
      ap (λ f. f ∷ findings_after site kept panel (new ++ old) (before ++ x ∷ []) xs) (finding-later (before ++ x ∷ []) more panel x (all 0 x refl))
      ∙ ap (λ fs. finding_of site kept panel old before x ∷ fs) (findings-later panel (before ++ x ∷ []) xs more (λ k a at. all (suc k) a at))

  -- and of the zones in alarm up to that tick
  since-later : (answers : List Answer) → AreUpTo tick answers → (zone x : ℕ) → x ≤ tick → (f g : Answer → Bool)
      → ((o : Answer) → o.stamp.0 ≤ tick → f o ≡ g o)
      → list_any (λ a. nat_lt (floor_before site zone x (new ++ old)) a.stamp.0 && f a) answers
      ≡ list_any (λ a. nat_lt (floor_before site zone x old) a.stamp.0 && g a) answers
  since-later answers late zone x le f g same =
      any-later answers late _ _
      (λ o lo. ap (λ n. nat_lt n o.stamp.0 && f o) (floor_is zone x le) ∙ ap (λ b. nat_lt (floor_before site zone x old) o.stamp.0 && b)
      (same o lo))

  pub in_alarm-later : (answers : List Answer) → AreUpTo tick answers → (zone x : ℕ) → x ≤ tick
      → is_in_alarm site kept (new ++ old) answers zone x ≡ is_in_alarm site kept old answers zone x
  in_alarm-later answers late zone x le =
      since-later answers late zone x le (confirms site kept (new ++ old) answers zone) (confirms site kept old answers zone)
      (λ o lo. confirms-later answers late zone o lo)

  pub by_hand-later : (answers : List Answer) → AreUpTo tick answers → (zone x : ℕ) → x ≤ tick
      → is_by_hand site kept (new ++ old) answers zone x ≡ is_by_hand site kept old answers zone x
  by_hand-later answers late zone x le =
      since-later answers late zone x le (calls site kept (new ++ old) zone) (calls site kept old zone) (λ o lo. calls-later answers late zone o lo)

  pub released-later : (answers : List Answer) → AreUpTo tick answers → (zone x : ℕ) → x ≤ tick
      → is_released site kept (new ++ old) answers zone x ≡ is_released site kept old answers zone x
  released-later answers late zone x le =
      since-later answers late zone x le (releases site kept (new ++ old) answers zone) (releases site kept old answers zone)
      (λ o lo. releases-later answers late zone o lo)

  tells_first-later : (within zone x : ℕ) → x ≤ tick → (a : Answer) → a.stamp.0 ≤ tick
      → tells_first site kept (new ++ old) within zone x a ≡ tells_first site kept old within zone x a
  tells_first-later within zone x le a la =
      ap (λ b. ((is_of site zone a.point && is_detector site a.point) && b)
      && ((nat_lt (floor_before site zone x (new ++ old)) a.stamp.0 && nat_lt (cancelled_before zone x (new ++ old)) a.stamp.0)
      && nat_le x (a.stamp.0 + within))) (counted-later a la)
      ∙ ap (λ n. ((is_of site zone a.point && is_detector site a.point) && is_counted site kept old a)
      && ((nat_lt n a.stamp.0 && nat_lt (cancelled_before zone x (new ++ old)) a.stamp.0) && nat_le x (a.stamp.0 + within))) (floor_is zone x le)
      ∙ ap (λ n. ((is_of site zone a.point && is_detector site a.point) && is_counted site kept old a)
      && ((nat_lt (floor_before site zone x old) a.stamp.0 && nat_lt n a.stamp.0) && nat_le x (a.stamp.0 + within)))
      (cancelled-later zone x new old (from_earlier x tick new le from))

  module _ (answers : List Answer) (late : AreUpTo tick answers) (zone x : ℕ) (le : x ≤ tick) where
    first_by-later : (rule : Option Rule) → is_first_by site kept (new ++ old) answers zone x rule ≡ is_first_by site kept old answers zone x rule
    first_by-later None = refl
    first_by-later (Some Plain) = refl
    first_by-later (Some (A verify within)) = refl
    first_by-later (Some (B within)) =
        ap (λ b. not b && list_any (tells_first site kept (new ++ old) within zone x) answers) (in_alarm-later answers late zone x le)
        ∙ ap (λ b. not (is_in_alarm site kept old answers zone x) && b)
        (any-later answers late _ _ (λ o lo. tells_first-later within zone x le o lo))
    first_by-later (Some C) = refl

    pub first-later : is_first site kept (new ++ old) answers zone x ≡ is_first site kept old answers zone x
    first-later = first_by-later (rule_of (slice_get site.zones zone))
