-- What the findings of answers tell is what the answers themselves do.
use Rattle.std.proofs.Common.{◌≡◌, ℕ, ◌+◌, ◌-◌, Bool, true, false, not, List, [], ◌∷◌, ◌++◌, filter, reverse, Option}
use Rattle.std.proofs.Common.{Some, None, slice_get, ◌==◌, ◌&&◌, ◌||◌, nat_lt, nat_le, if◌then◌else◌, refl, sym, ◌∙◌}
use Rattle.std.proofs.Common.{ap, append_assoc}
use Rattle.std.specs.List.{list_any}
use Rattle.std.proofs.lemmas.Bool.{eqb-true}
use Rattle.std.proofs.lemmas.List.{append-nil, reverse-append}
use Rattle.std.proofs.lemmas.List.Elements.{filter-append}
use Rattle.site_types.specs.declared.site.Site.{Site}
use Rattle.site_types.specs.declared.zone.Zone.{Zone}
use Rattle.site_types.specs.declared.point.Point.{Point}
use Rattle.site_types.specs.declared.answer.Answer.{Answer}
use Rattle.site_types.specs.declared.rule.Rule.{Rule}
use Rattle.site_types.specs.declared.rule.Rule.TheVariants.{Plain, A, B, C}
use Rattle.site_types.specs.declared.retained.Retained.{Retained}
use Rattle.site_types.specs.Bits.{has_bit}
use Rattle.site_types.specs.Done.{Done, floor_before, cancelled_before}
use Rattle.coincidence_rules.specs.declared.finding.Finding.{Finding}
use Rattle.coincidence_rules.specs.Places.{is_of, lies_in, is_call_point, detects, rule_of}
use Rattle.coincidence_rules.specs.Counted.{is_counted}
use Rattle.coincidence_rules.specs.Alarm.{calls, is_in_alarm, is_by_hand, is_released}
use Rattle.coincidence_rules.specs.First.{tells_first as tells_first_by, is_first_by, is_first}
use Rattle.coincidence_rules.specs.Findings.{finding_among, findings_after, findings_of}
use Rattle.coincidence_rules.specs.InOrder.{AreInOrder}
use Rattle.coincidence_rules.specs.Missing.{latest_of, begins_silent, is_missing}
use Rattle.coincidence_rules.specs.Wired.{IsWired}
use Rattle.coincidence_rules.proofs.FoundFindings.{confirmed_tells, released_tells, manual_tells}
use Rattle.coincidence_rules.proofs.ZoneMasks.{has_bit-zone}
use Rattle.panel_conditions.specs.Zones.{tells, tells_zone, alarm_found, hand_found, release_found, tells_first, first_found_by, first_found}
use Rattle.panel_conditions.specs.Missing.{last_missing, missing_found}

-- a test of the findings that is one of their answers
any_alone : (site : Site) (kept : Retained) (panel : ℕ) (done : List Done) (bit : Finding → Bool) (test : Answer → Bool)
    → ((all : List Answer) (a : Answer) → bit (finding_among site kept panel done all a) ≡ test a) →
    (before xs : List Answer) → list_any bit (findings_after site kept panel done before xs) ≡ list_any test xs
any_alone site kept panel done bit test same before [] = refl
any_alone site kept panel done bit test same before (x ∷ xs) =
    ap (λ b. b || list_any bit (findings_after site kept panel done (before ++ x ∷ []) xs)) (same (before ++ x ∷ []) x)
    ∙ ap (λ b. test x || b) (any_alone site kept panel done bit test same (before ++ x ∷ []) xs)

-- it counts for the zone and isn't of a manual call point: it is of a detector of the zone, and counts
detector_is : (zone : ℕ) (counted : Bool) (o : Option Point) →
    ((counted && lies_in zone o) && not (counted && (lies_in zone o && is_call_point o))) ≡ ((lies_in zone o && detects o) && counted)
detector_is zone false None = refl
detector_is zone true None = refl
detector_is zone counted (Some p) = go counted (p.zone == zone) p.manual
  where
    go : (c o m : Bool) → ((c && o) && not (c && (o && m))) ≡ ((o && not m) && c)
    go true true true = refl
    go true true false = refl
    go true false true = refl
    go true false false = refl
    go false true true = refl
    go false true false = refl
    go false false true = refl
    go false false false = refl

module _ (site : Site) (kept : Retained) (done : List Done) (answers : List Answer) (place tick : ℕ) (zone : Zone) (wired : IsWired site) (is :
    slice_get site.zones place ≡ Some zone) where
  -- a mask of the zone's panel tells the zone by its bit
  by_bit : (floor : ℕ) (mask : Finding → ℕ) (taken : List Finding) →
      list_any (λ f. nat_lt floor f.stamp.0 && tells site place (mask f)) taken
      ≡ list_any (λ f. nat_lt floor f.stamp.0 && has_bit (mask f) (zone.number - 1)) taken
  by_bit floor mask taken = ap (λ o. list_any (λ f. nat_lt floor f.stamp.0 && tells_zone (mask f) o) taken) is

  pub alarm_tells : AreInOrder answers → alarm_found site done (findings_of site kept zone.panel done answers) place tick
      ≡ is_in_alarm site kept done answers place tick
  alarm_tells order =
      by_bit (floor_before site place tick done) (λ f. f.confirmed) (findings_of site kept zone.panel done answers)
      ∙ confirmed_tells site kept done answers place zone (nat_lt (floor_before site place tick done)) wired is order

  pub release_tells : AreInOrder answers → release_found site done (findings_of site kept zone.panel done answers) place tick
      ≡ is_released site kept done answers place tick
  release_tells order =
      by_bit (floor_before site place tick done) (λ f. f.released) (findings_of site kept zone.panel done answers)
      ∙ released_tells site kept done answers place zone (nat_lt (floor_before site place tick done)) wired is order

  pub hand_tells : hand_found site done (findings_of site kept zone.panel done answers) place tick ≡ is_by_hand site kept done answers place tick
  hand_tells =
      by_bit (floor_before site place tick done) (λ f. f.manual) (findings_of site kept zone.panel done answers)
      ∙ manual_tells site kept done answers place zone (nat_lt (floor_before site place tick done)) wired is

  one_tells : (within : ℕ) (all : List Answer) (a : Answer) →
      tells_first site done within place tick (finding_among site kept zone.panel done all a) ≡ tells_first_by site kept done within place tick a
  one_tells within all a =
      let f = finding_among site kept zone.panel done all a in
      let rest = (nat_lt (floor_before site place tick done) a.stamp.0 && nat_lt (cancelled_before place tick done) a.stamp.0)
      && nat_le tick (a.stamp.0 + within) in
      let counted = ap (tells_zone f.counted) is ∙ has_bit-zone site (λ z. is_counted site kept done a && is_of site z a.point) place zone wired is in
      let manual = ap (tells_zone f.manual) is ∙ has_bit-zone site (λ z. calls site kept done z a) place zone wired is in
      ap (λ b. (b && not (tells site place f.manual)) && rest) counted
      ∙ ap (λ b. ((is_counted site kept done a && is_of site place a.point) && not b) && rest) manual
      ∙ ap (λ b. b && rest) (detector_is place (is_counted site kept done a) (slice_get site.points a.point))

  first_by_tells : AreInOrder answers → (rule : Option Rule)
      → first_found_by site done (findings_of site kept zone.panel done answers) place tick rule ≡ is_first_by site kept done answers place tick rule
  first_by_tells order None = refl
  first_by_tells order (Some Plain) = refl
  first_by_tells order (Some (A verify within)) = refl
  first_by_tells order (Some (B within)) =
      ap (λ b. not b && list_any (tells_first site done within place tick) (findings_of site kept zone.panel done answers)) (alarm_tells order)
      ∙ ap (λ b. not (is_in_alarm site kept done answers place tick) && b)
      (any_alone site kept zone.panel done (tells_first site done within place tick) (tells_first_by site kept done within place tick)
      (one_tells within) [] answers)
  first_by_tells order (Some C) = refl

  pub first_state_tells : AreInOrder answers → first_found site done (findings_of site kept zone.panel done answers) place tick
      ≡ is_first site kept done answers place tick
  first_state_tells order = first_by_tells order (rule_of (slice_get site.zones place))

-- ---- points

latest_more : (point : ℕ) (xs : List Answer) (x : Answer)
    → latest_of point (xs ++ x ∷ []) ≡ (if x.point == point then x ∷ latest_of point xs else latest_of point xs)
latest_more point xs x =
    ap reverse (filter-append (λ a. a.point == point) xs (x ∷ []))
    ∙ reverse-append (filter (λ a. a.point == point) xs) (filter (λ a. a.point == point) (x ∷ []))
    ∙ go (x.point == point)
  where
    go : (b : Bool) → reverse (if b then x ∷ [] else []) ++ reverse (filter (λ a. a.point == point) xs)
        ≡ (if b then x ∷ latest_of point xs else latest_of point xs)
    go true = refl
    go false = refl

-- what the finding of one more answer tells of a point
one_missing : (place : ℕ) (was : Bool) (before : List Answer) (x : Answer) → was ≡ is_missing before place →
    (if x.point == place then is_missing (before ++ x ∷ []) x.point else was) ≡ is_missing (before ++ x ∷ []) place
one_missing place was before x e = go (x.point == place) refl
  where
    go : (b : Bool) → (x.point == place) ≡ b → (if b then is_missing (before ++ x ∷ []) x.point else was) ≡ is_missing (before ++ x ∷ []) place
    go true same = ap (is_missing (before ++ x ∷ [])) (eqb-true x.point place same)
    go false other =
        e ∙ sym (ap (begins_silent 3) (latest_more place before x ∙ ap (λ b. if b then x ∷ latest_of place before else latest_of place before) other))

missing_from : (site : Site) (kept : Retained) (panel place : ℕ) (done : List Done) (was : Bool) (before xs : List Answer)
    → was ≡ is_missing before place →
    last_missing place was (findings_after site kept panel done before xs) ≡ is_missing (before ++ xs) place
missing_from site kept panel place done was before [] e = e ∙ ap (λ l. is_missing l place) (sym (append-nil before))
missing_from site kept panel place done was before (x ∷ xs) e =
    missing_from site kept panel place done (if x.point == place then is_missing (before ++ x ∷ []) x.point else was) (before ++ x ∷ []) xs
    (one_missing place was before x e)
    ∙ ap (λ l. is_missing l place) (append_assoc before (x ∷ []) xs)

pub missing_tells : (site : Site) (kept : Retained) (panel place : ℕ) (done : List Done) (answers : List Answer)
    → missing_found (findings_of site kept panel done answers) place ≡ is_missing answers place
missing_tells site kept panel place done answers = missing_from site kept panel place done false [] answers refl
