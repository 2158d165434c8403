-- A detector that has counted for its zone's time is one whose mark began so long ago.
use Rattle.std.proofs.Common.{◌≡◌, ℕ, ◌+◌, ◌-◌, ◌≤◌, ◌&&◌, ◌||◌, not, Bool, true, false, List, take, Some, slice_get, refl, sym, ◌∙◌, subst, arith}
use Rattle.std.specs.Prelude.{nat_lt}
use Rattle.std.proofs.lemmas.Bool.{eqb-true}
use Rattle.site_types.specs.declared.answer.Answer.{Answer}
use Rattle.site_types.specs.declared.retained.Retained.{Retained}
use Rattle.site_types.specs.declared.rule.Rule.TheVariants.{A}
use Rattle.site_types.specs.declared.site.Site.{Site}
use Rattle.site_types.specs.Done.{Done, floor_before, moves_floor}
use Rattle.coincidence_rules.specs.Confirmed.{counts_throughout, is_between, is_first_of_run, is_verified}
use Rattle.coincidence_rules.specs.Counted.{is_counted}
use Rattle.coincidence_rules.specs.Places.{is_of, rule_of}
use Rattle.coincidence_rules.proofs.Lists.{same_test}
use Rattle.panel_rules.specs.Answers.{answers}
use Rattle.panel_rules.specs.Moments.{Moment, tick_of}
use Rattle.panel_rules.specs.Zones.{panel_of_zone}
use Rattle.panel_rules.proofs.AnswersTell.{eq_true}
use Rattle.panel_rules.proofs.Bools.{all_at, all_by, any_at, at_any, both, parts}
use Rattle.panel_rules.proofs.Floors.{le_from, le_to}
use Rattle.panel_rules.proofs.Held.{at_panel}
use Rattle.panel_rules.proofs.ValidLayout.{laid_out}
use Rattle.blocked_points.specs.declared.done_operation.DoneOperation.{DoneOperation}
use Rattle.blocked_points.specs.Operations.{done_newest_first}
use Rattle.caused_zones.specs.declared.point_mark.PointMark.{PointMark}
use Rattle.caused_zones.specs.Counting.{CountsAt, CountsThrough, IsAskedAt}
use Rattle.caused_zones.specs.Judging.{is_mark_verified, mark_at}
use Rattle.caused_zones.specs.Undoing.{undoes_at, was_undone}
use Rattle.caused_zones.proofs.Answered.{answered, asked_is, counted_by, counted_in, counted_is}
use Rattle.caused_zones.proofs.ByZone.{undone_A, undone_at}
use Rattle.caused_zones.proofs.NearAnswers.{AreKnown}
use Rattle.caused_zones.proofs.Undone.{last_before, none_undid, undone_none}

module _ (site : Site) (kept : Retained) (operations : List DoneOperation) (taken now : ℕ) (moments : List Moment) (marks : List PointMark) (known :
    AreKnown site kept operations taken now moments marks) where
  abbrev done : List Done
  done = done_newest_first operations

  abbrev before : List Done
  before = done_newest_first (take taken operations)

  -- the mark of a point that counts now is of this tick
  pub last_now : (point : ℕ) → CountsAt site kept done moments point now → (mark_at marks point).last ≡ now
  last_now point c =
      let stand = known.stand point in
      let one = c.begins in
      let latest : now ≤ (mark_at marks point).last = stand.latest now c (undone_none (undoes_at site point) now operations taken known.are_taken one) in
      let counts : CountsAt site kept done moments point (mark_at marks point).last = stand.last (omega (arith, one, latest)) in
      let past : (mark_at marks point).last ≤ tick_of moments = counts.past in
      let at = known.at in
      omega (arith, latest, past, at)

  module _ (panel zone verify within : ℕ) (a : Answer) (at : a.stamp.0 ≡ now) (own : panel_of_zone site zone ≡ panel) (rule :
      rule_of (slice_get site.zones zone) ≡ Some (A verify within)) (of : is_of site zone a.point ≡ true)
      (counts : CountsAt site kept done moments a.point now) where
    abbrev xs : List Answer
    xs = answers site panel moments

    by_floor : (first : ℕ) → was_undone (undoes_at site a.point) first before ≡ was_undone (moves_floor site zone) first before
    by_floor first = undone_at site zone a.point first before of ∙ undone_A site zone verify within first before rule

    -- an answer of the point in each tick in which it is asked
    each_counts : (first : ℕ) → counts_throughout site kept done xs a.point first a.stamp.0 ≡ true → 1 ≤ first → (tick : ℕ) → first ≤ tick → tick ≤ now
        → IsAskedAt site a.point tick → CountsAt site kept done moments a.point tick
    each_counts first all one tick from by asked =
        let lies = at_panel site zone panel a.point (laid_out site known.valid) of own in
        let here = known.at in
        let found = answered site kept done moments known.valid known.run known.ended panel a.point tick lies.plan lies.is lies.of_panel
        (omega (arith, one, from)) (omega (arith, by, here)) asked in
        let stamp = found.stamp_is in
        let passes = all_at (λ other. not (is_between a.point first a.stamp.0 other) || is_counted site kept done other) xs found.place found.answer all
        found.is in
        let between : is_between a.point first a.stamp.0 found.answer ≡ true =
        both _ _ (eq_true found.answer.point a.point found.point_is)
        (both _ _ (le_to first found.answer.stamp.0 (omega (arith, from, stamp))) (le_to found.answer.stamp.0 a.stamp.0 (omega (arith, by, stamp, at)))) in
        let c = counted_is site kept done moments known.valid known.run known.ended panel found.place found.answer found.is
        (drop_not _ _ between passes) in
        subst (λ p. CountsAt site kept done moments p tick) found.point_is
        (subst (λ t. CountsAt site kept done moments found.answer.point t) stamp c)
      where
        drop_not : (x y : Bool) → x ≡ true → (not x || y) ≡ true → y ≡ true
        drop_not true y e h = h
        drop_not false y e h = absurd cc

    pub verified_is : is_verified site kept done xs verify zone a ≡ is_mark_verified now verify (mark_at marks a.point)
    verified_is = same_test _ _ to from
      where
        to : is_verified site kept done xs verify zone a ≡ true → is_mark_verified now verify (mark_at marks a.point) ≡ true
        to h =
            let g = at_any _ xs h in
            let o = g.item in
            let w = parts _ _ g.passes in
            let p = parts _ _ w.0 in
            let q = parts _ _ p.0 in
            let f = parts _ _ p.1 in
            let long = le_from (o.stamp.0 + verify) a.stamp.0 f.1 in
            let same : o.point ≡ a.point = eqb-true _ _ q.0 in
            let c = counted_is site kept done moments known.valid known.run known.ended panel g.place o g.is q.1 in
            let begins : CountsAt site kept done moments a.point o.stamp.0 = subst (λ k. CountsAt site kept done moments k o.stamp.0) same c in
            let through : CountsThrough site kept done moments a.point o.stamp.0 now = record {
              begins = begins;
              rising = omega (arith, long, at);
              each = each_counts o.stamp.0 w.1 begins.begins;
            } in
            let stand = known.stand a.point in
            let last = last_now a.point counts in
            let one = counts.begins in
            let some : 1 ≤ (mark_at marks a.point).last = omega (arith, last, one) in
            let floor = none_undid (moves_floor site zone) o.stamp.0 now operations taken known.are_taken
            (subst (λ x. nat_lt (floor_before site zone x done) o.stamp.0 ≡ true) at f.0) in
            let early = stand.earliest some o.stamp.0 (subst (λ t. CountsThrough site kept done moments a.point o.stamp.0 t) (sym last) through)
            (by_floor o.stamp.0 ∙ floor) in
            le_to verify (now - (mark_at marks a.point).first) (omega (arith, early, long, at))

        from : is_mark_verified now verify (mark_at marks a.point) ≡ true → is_verified site kept done xs verify zone a ≡ true
        from h =
            let stand = known.stand a.point in
            let last = last_now a.point counts in
            let one = counts.begins in
            let some : 1 ≤ (mark_at marks a.point).last = omega (arith, last, one) in
            let first = (mark_at marks a.point).first in
            let through = stand.run some in
            let long = le_from verify (now - first) h in
            let rising = through.rising in
            let lies = at_panel site zone panel a.point (laid_out site known.valid) of own in
            let begun = through.begins.begins in
            let found = counted_in site kept done moments known.valid known.run known.ended panel a.point first lies.plan lies.is lies.of_panel
            through.begins in
            let stamp = found.stamp_is in
            let floor = last_before (moves_floor site zone) first now operations taken known.are_taken (sym (by_floor first) ∙ stand.run_lasts some) begun in
            any_at (λ o. is_first_of_run site kept done verify zone a o && counts_throughout site kept done xs a.point o.stamp.0 a.stamp.0) xs
            found.place found.answer found.is
            (both _ _ (both _ _ (both _ _ (eq_true _ _ found.point_is) found.counts)
            (both _ _ (subst (λ s. nat_lt (floor_before site zone a.stamp.0 done) s ≡ true) (sym stamp)
            (subst (λ x. nat_lt (floor_before site zone x done) first ≡ true) (sym at) floor))
            (le_to (found.answer.stamp.0 + verify) a.stamp.0 (omega (arith, stamp, long, last, rising, at)))))
            (all_by (λ o. not (is_between a.point found.answer.stamp.0 a.stamp.0 o) || is_counted site kept done o) xs
            (λ k b is. either_way (is_between a.point found.answer.stamp.0 a.stamp.0 b) (is_counted site kept done b)
            (λ t.
            let w = parts _ _ t in
            let v = parts _ _ w.1 in
            let same : b.point ≡ a.point = eqb-true _ _ w.0 in
            let low = le_from found.answer.stamp.0 b.stamp.0 v.0 in
            let high = le_from b.stamp.0 a.stamp.0 v.1 in
            let c = through.each b.stamp.0 (omega (arith, low, stamp)) (omega (arith, high, at, last))
            (subst (λ p. IsAskedAt site p b.stamp.0) same (asked_is site kept done moments known.valid known.run known.ended panel k b is)) in
            let again : CountsAt site kept done moments b.point b.stamp.0 = subst (λ p. CountsAt site kept done moments p b.stamp.0) (sym same) c in
            counted_by site kept done moments known.valid known.run known.ended panel k b is again.signals))))
          where
            either_way : (x y : Bool) → (x ≡ true → y ≡ true) → (not x || y) ≡ true
            either_way true y f = f refl
            either_way false y f = refl
