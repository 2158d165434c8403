-- A zone that is caused to be released is caused to be in alarm.
use Rattle.std.proofs.Common.{◌≡◌, ◌⊎◌, ℕ, zero, suc, ◌≤◌, ◌==◌, ◌&&◌, ◌||◌, not, Bool, true, false, List, [], ◌∷◌, Option}
use Rattle.std.proofs.Common.{Some, None, slice_get, inl, inr, refl, sym, ◌∙◌, ap, subst, arith}
use Rattle.std.specs.Prelude.{nat_le, nat_lt}
use Rattle.std.specs.List.{list_any}
use Rattle.site_types.specs.declared.answer.Answer.{Answer}
use Rattle.site_types.specs.declared.point.Point.{Point}
use Rattle.site_types.specs.declared.retained.Retained.{Retained}
use Rattle.site_types.specs.declared.rule.Rule.{Rule}
use Rattle.site_types.specs.declared.rule.Rule.TheVariants.{Plain, A, B, C}
use Rattle.site_types.specs.declared.site.Site.{Site}
use Rattle.site_types.specs.Done.{Done, floor_before, moves_floor}
use Rattle.site_types.proofs.Done.{lt_tells}
use Rattle.coincidence_rules.specs.Alarm.{calls, has_second, releases, releases_by}
use Rattle.coincidence_rules.specs.Confirmed.{coincides, confirms, is_by_call_point, is_second}
use Rattle.coincidence_rules.specs.Counted.{is_counted}
use Rattle.coincidence_rules.specs.Places.{detects, is_call_point, is_detector, is_manual, is_of, lies_in, on_partner, pairs_up, rule_of}
use Rattle.panel_rules.specs.Answers.{answers}
use Rattle.panel_rules.specs.Caused.{IsCausedAt, IsCausedOut}
use Rattle.panel_rules.specs.Due.{NoFloor, none_in}
use Rattle.panel_rules.specs.Moments.{Moment}
use Rattle.panel_rules.specs.Zones.{panel_of_zone}
use Rattle.panel_rules.proofs.AnswersTell.{eq_true}
use Rattle.panel_rules.proofs.Bools.{both, either, either_left, either_right, parts}
use Rattle.panel_rules.proofs.Causes.{none_from}
use Rattle.panel_rules.proofs.Floors.{le_from, le_to, lt_from}
use Rattle.panel_laws.proofs.AnswerLaws.{eq_is}
use Rattle.audit_laws.proofs.AnswersJudged.{any_got}

-- ---- spans without a floor join

low : (a b c : Bool) → b ≡ true → not (a && b) ≡ true → not (a && c) ≡ true
low true true c e p = cc
low true false c e p = cc
low false b c e p = refl

high : (m l f : Bool) → m ≡ true → not (m && l) ≡ true → not (f && l) ≡ true
high true true f e p = cc
high true false true e p = refl
high true false false e p = refl
high false l f e p = cc

join_one : (t : Bool) (first mid last tick : ℕ) → not (t && (nat_le first tick && nat_lt tick mid)) ≡ true
    → not (t && (nat_le mid tick && nat_lt tick last)) ≡ true → not (t && (nat_le first tick && nat_lt tick last)) ≡ true
join_one false first mid last tick p q = refl
join_one true first mid last tick p q =
    elim (lt_tells tick mid) [
      | inl h ↦ low (nat_le first tick) (nat_lt tick mid) (nat_lt tick last) h.0 p
      | inr h ↦ high (nat_le mid tick) (nat_lt tick last) (nat_le first tick) (le_to mid tick h.1) q
    ]

none_join : (test : Done → Bool) (first mid last : ℕ) (done : List Done) → none_in test first mid done ≡ true → none_in test mid last done ≡ true
    → none_in test first last done ≡ true
none_join test first mid last [] p q = refl
none_join test first mid last (d ∷ ds) p q =
    let one = parts (not (test d && (nat_le first d.tick && nat_lt d.tick mid))) (none_in test first mid ds) p in
    let two = parts (not (test d && (nat_le mid d.tick && nat_lt d.tick last))) (none_in test mid last ds) q in
    both _ _ (join_one (test d) first mid last d.tick one.0 two.0) (none_join test first mid last ds one.1 two.1)

any_at : {X : Type 0} (test : X → Bool) (xs : List X) (k : ℕ) (x : X) → slice_get xs k ≡ Some x → test x ≡ true → list_any test xs ≡ true
any_at test [] k x is t = cc
any_at test (y ∷ xs) zero x is t = let same : y ≡ x = cc in either_left (test y) (list_any test xs) (ap test same ∙ t)
any_at test (y ∷ xs) (suc k) x is t = either_right (test y) (list_any test xs) (any_at test xs k x is t)

-- a point of a zone is a manual call point of it or a detector
point_kind : (site : Site) (zone point : ℕ) → is_of site zone point ≡ true
    → (is_by_call_point site zone point ≡ true) ⊎ (is_detector site point ≡ true)
point_kind site zone point of = by (slice_get site.points point) refl
  where
    by : (plan : Option Point) → slice_get site.points point ≡ plan → (is_by_call_point site zone point ≡ true) ⊎ (is_detector site point ≡ true)
    by None is = absurd (let e = sym of ∙ ap (λ (o : Option Point). lies_in zone o) is in cc)
    by (Some p) is = manual p.manual refl
      where
        manual : (b : Bool) → p.manual ≡ b → (is_by_call_point site zone point ≡ true) ⊎ (is_detector site point ≡ true)
        manual true e = inl (both (is_of site zone point) (is_manual site point) of (ap is_call_point is ∙ e))
        manual false e = inr (ap detects is ∙ ap not e)

-- ---- a zone that is caused to be released is caused to be in alarm

module _ (site : Site) (kept : Retained) (done : List Done) (m : List Moment) (zone tick : ℕ) where
  abbrev all : List Answer
  all = answers site (panel_of_zone site zone) m

  alarm_at : (k : ℕ) (a : Answer) → slice_get all k ≡ Some a → confirms site kept done all zone a ≡ true → a.stamp.0 ≤ tick
      → NoFloor site done zone a.stamp.0 tick → IsCausedAt site kept done m zone tick
  alarm_at k a is t by floor =
      record {
        stamp = a.stamp.0;
        past = by;
        given =
            any_at (λ (x : Answer). (x.stamp.0 == a.stamp.0) && confirms site kept done all zone x) all k a is
            (both (a.stamp.0 == a.stamp.0) (confirms site kept done all zone a) (eq_true a.stamp.0 a.stamp.0 refl) t);
        floor = floor;
      }

  -- in a zone of type C each answer of it that counts confirms it
  counted_confirms : (a : Answer) → rule_of (slice_get site.zones zone) ≡ Some C → is_counted site kept done a ≡ true → is_of site zone a.point ≡ true
      → confirms site kept done all zone a ≡ true
  counted_confirms a rule counts of =
      both (is_counted site kept done a) _ counts
      (elim (point_kind site zone a.point of) [
        | inl hand ↦ either_left (is_by_call_point site zone a.point) _ hand
        | inr det ↦
            either_right (is_by_call_point site zone a.point) _
            (both (is_detector site a.point) (coincides site kept done all zone (rule_of (slice_get site.zones zone)) a) det
            (ap (λ (r : Option Rule). coincides site kept done all zone r a) rule ∙ of))
      ])

  by_pair : (a : Answer) → rule_of (slice_get site.zones zone) ≡ Some C → (k : ℕ) → slice_get all k ≡ Some a → a.stamp.0 ≤ tick
      → NoFloor site done zone a.stamp.0 tick → has_second site kept done all zone a ≡ true → IsCausedAt site kept done m zone tick
  by_pair a rule k is by floor t =
      let p = parts (is_counted site kept done a) (pairs_up site zone a.point (λ other. list_any (is_second site kept done other a) all)) t in
      elim
      (either (is_of site zone a.point && (list_any (is_second site kept done zone a) all || on_partner site zone (λ other. list_any (is_second site kept done other a) all)))
      (on_partner site zone (λ other. is_of site other a.point) && list_any (is_second site kept done zone a) all) p.1) [
        | inl own ↦ alarm_at k a is (counted_confirms a rule p.0 (parts (is_of site zone a.point) _ own).0) by floor
        | inr partner ↦ second (parts (on_partner site zone (λ other. is_of site other a.point)) (list_any (is_second site kept done zone a) all) partner).1
      ]
    where
      second : list_any (is_second site kept done zone a) all ≡ true → IsCausedAt site kept done m zone tick
      second h =
          let o = any_got (is_second site kept done zone a) all h in
          let p =
          parts ((is_of site zone o.item.point && is_counted site kept done o.item) && not (o.item.point == a.point))
          (nat_lt (floor_before site zone a.stamp.0 done) o.item.stamp.0 && nat_le o.item.stamp.0 a.stamp.0) o.passes in
          let q = parts (is_of site zone o.item.point && is_counted site kept done o.item) (not (o.item.point == a.point)) p.0 in
          let r = parts (is_of site zone o.item.point) (is_counted site kept done o.item) q.0 in
          let s = parts (nat_lt (floor_before site zone a.stamp.0 done) o.item.stamp.0) (nat_le o.item.stamp.0 a.stamp.0) p.1 in
          let no_later = le_from o.item.stamp.0 a.stamp.0 s.1 in
          alarm_at o.place o.item o.is (counted_confirms o.item rule r.1 r.0) (omega (arith, no_later, by))
          (none_join (moves_floor site zone) o.item.stamp.0 a.stamp.0 tick done
          (none_from (moves_floor site zone) o.item.stamp.0 a.stamp.0 done (lt_from (floor_before site zone a.stamp.0 done) o.item.stamp.0 s.0)) floor)

  by_rule : (rule : Option Rule) → rule_of (slice_get site.zones zone) ≡ rule → (k : ℕ) (a : Answer) → slice_get all k ≡ Some a
      → releases_by site kept done all zone rule a ≡ true → a.stamp.0 ≤ tick → NoFloor site done zone a.stamp.0 tick
      → IsCausedAt site kept done m zone tick
  by_rule None e k a is t by floor = alarm_at k a is t by floor
  by_rule (Some Plain) e k a is t by floor = alarm_at k a is t by floor
  by_rule (Some (A verify within)) e k a is t by floor = alarm_at k a is t by floor
  by_rule (Some (B within)) e k a is t by floor = alarm_at k a is t by floor
  by_rule (Some C) e k a is t by floor =
      elim (either (calls site kept done zone a) (has_second site kept done all zone a) t) [
        | inl hand ↦
            (let p = parts (is_counted site kept done a) (is_by_call_point site zone a.point) hand in
            alarm_at k a is (both (is_counted site kept done a) _ p.0 (either_left (is_by_call_point site zone a.point) _ p.1)) by floor)
        | inr pair ↦ by_pair a e k is by floor pair
      ]

  pub out_alarm : IsCausedOut site kept done m zone tick → IsCausedAt site kept done m zone tick
  out_alarm h =
      let g = any_got (λ (x : Answer). (x.stamp.0 == h.stamp) && releases site kept done all zone x) all h.given in
      let p = parts (g.item.stamp.0 == h.stamp) (releases site kept done all zone g.item) g.passes in
      let at = eq_is g.item.stamp.0 h.stamp p.0 in
      let past = h.past in
      by_rule (rule_of (slice_get site.zones zone)) refl g.place g.item g.is p.1 (omega (arith, at, past))
      (subst (λ n. NoFloor site done zone n tick) (sym at) h.floor)
