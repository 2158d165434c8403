-- What one answer or two that count confirm, release and tell of a zone, and that a floor before them changes nothing.
use Rattle.std.proofs.Common.{◌≡◌, ℕ, ◌+◌, ◌≤◌, ◌<◌, List, Option, Some, None, slice_get, ◌⊎◌, inl, inr, Bool, true, ◌≢◌, refl, ◌∙◌, ap, arith}
use Rattle.std.proofs.lemmas.Bool.Decides.{leb_tells}
use Rattle.site_types.specs.declared.site.Site.{Site}
use Rattle.site_types.specs.declared.answer.Answer.{Answer}
use Rattle.site_types.specs.declared.retained.Retained.{Retained}
use Rattle.site_types.specs.declared.rule.Rule.{Rule}
use Rattle.site_types.specs.declared.rule.Rule.TheVariants.{Plain, A, B, C}
use Rattle.site_types.specs.Done.{Done, floor_before}
use Rattle.coincidence_rules.specs.Places.{is_detector, rule_of}
use Rattle.coincidence_rules.specs.Counted.{is_counted}
use Rattle.coincidence_rules.specs.Confirmed.{coincides, is_by_call_point, confirms}
use Rattle.coincidence_rules.specs.Alarm.{since_floor, calls, releases_by}
use Rattle.panel_rules.proofs.Bools.{both, parts, either_left, either_right, any_at}
use Rattle.panel_rules.proofs.Floors.{lt_to}
use Rattle.panel_rules.proofs.Held.{Counts}

-- an answer from a tick on passes a test
pub record Sure (xs : List Answer) (first : ℕ) (test : Answer → Bool) : Type 0 where
  pub place : ℕ
  pub answer : Answer
  pub is : slice_get xs place ≡ Some answer
  pub from : first ≤ answer.stamp.0
  pub passes : test answer ≡ true

-- where whatever passes the test passes another one too, it passes that
pub sure_by : (xs : List Answer) (first : ℕ) (test other : Answer → Bool) → ((a : Answer) → test a ≡ true → other a ≡ true) → Sure xs first test
    → Sure xs first other
sure_by xs first test other more s =
    record { place = s.place; answer = s.answer; is = s.is; from = s.from; passes = more s.answer s.passes }

-- one that counts, stamped in a span, is such an answer from its first tick on
pub sure_counted : {site : Site} {kept : Retained} {done : List Done} {xs : List Answer} {point first last : ℕ} {test : Answer → Bool}
    (c : Counts site kept done xs point first last) → test c.answer ≡ true → Sure xs first test
sure_counted c passes = record { place = c.place; answer = c.answer; is = c.is; from = c.from; passes = passes }

-- an answer from a tick on passes a test since the floor, which lies before that tick
pub sure_since : (site : Site) (done : List Done) (xs : List Answer) (zone tick first : ℕ) (test : Answer → Bool)
    → floor_before site zone tick done < first → Sure xs first test → since_floor site done xs zone tick test ≡ true
sure_since site done xs zone tick first test l s =
    any_at _ xs s.place s.answer s.is (both _ _ (lt_to _ _ (omega (arith, l, s.from))) s.passes)

module _ (site : Site) (kept : Retained) (done : List Done) (xs : List Answer) (zone : ℕ) where
  pub by_call : (a : Answer) → is_counted site kept done a ≡ true → is_by_call_point site zone a.point ≡ true
      → confirms site kept done xs zone a ≡ true
  by_call a c h = both _ _ c (either_left _ _ h)

  pub by_rule : (a : Answer) (rule : Option Rule) → rule_of (slice_get site.zones zone) ≡ rule → is_counted site kept done a ≡ true
      → is_detector site a.point ≡ true → coincides site kept done xs zone rule a ≡ true → confirms site kept done xs zone a ≡ true
  by_rule a rule e c d h = both _ _ c (either_right _ _ (both _ _ d (ap (λ r. coincides site kept done xs zone r a) e ∙ h)))

  -- a manual call point releases for every type
  pub hand_releases : (a : Answer) (rule : Option Rule) → calls site kept done zone a ≡ true → releases_by site kept done xs zone rule a ≡ true
  hand_releases a None h = let p = parts _ _ h in by_call a p.0 p.1
  hand_releases a (Some Plain) h = let p = parts _ _ h in by_call a p.0 p.1
  hand_releases a (Some (A verify within)) h = let p = parts _ _ h in by_call a p.0 p.1
  hand_releases a (Some (B within)) h = let p = parts _ _ h in by_call a p.0 p.1
  hand_releases a (Some C) h = either_left _ _ h

  -- for the other types what confirms releases
  pub alarm_releases : (a : Answer) (rule : Option Rule) → rule ≢ Some C → confirms site kept done xs zone a ≡ true
      → releases_by site kept done xs zone rule a ≡ true
  alarm_releases a None n h = h
  alarm_releases a (Some Plain) n h = h
  alarm_releases a (Some (A verify within)) n h = h
  alarm_releases a (Some (B within)) n h = h
  alarm_releases a (Some C) n h = absurd (n refl)

-- of two answers that count, of two points, the later one and the earlier one
pub record TwoCount (site : Site) (kept : Retained) (done : List Done) (xs : List Answer) (later_point earlier_point first last : ℕ) : Type 0 where
  pub later : Counts site kept done xs later_point first last
  pub earlier : Counts site kept done xs earlier_point first last
  pub in_order : earlier.answer.stamp.0 ≤ later.answer.stamp.0

pub two_in_order : (site : Site) (kept : Retained) (done : List Done) (xs : List Answer) (one other first second last : ℕ) → first ≤ second
    → Counts site kept done xs one first (first + last) → Counts site kept done xs other second (second + last)
    → TwoCount site kept done xs other one first (second + last) ⊎ TwoCount site kept done xs one other first (second + last)
two_in_order site kept done xs one other first second last l f s =
    let f' : Counts site kept done xs one first (second + last) =
    record {
      place = f.place;
      answer = f.answer;
      is = f.is;
      point_is = f.point_is;
      from = f.from;
      by = omega (arith, f.by, l);
      counts =
          f.counts;
    } in
    let s' : Counts site kept done xs other first (second + last) =
    record {
      place = s.place;
      answer = s.answer;
      is = s.is;
      point_is = s.point_is;
      from = omega (arith, s.from, l);
      by = s.by;
      counts =
          s.counts;
    } in
    elim (leb_tells f.answer.stamp.0 s.answer.stamp.0) [
      | inl o ↦ inl (record { later = s'; earlier = f'; in_order = o.1 })
      | inr o ↦ inr (record { later = f'; earlier = s'; in_order = omega (arith, o.1) })
    ]
