-- Another detector's answer that is near enough is one of its point's mark.
use Rattle.std.proofs.Common.{◌≡◌, ℕ, ◌+◌, ◌-◌, ◌≤◌, ◌==◌, ◌||◌, not, Bool, true, false, List, length, take, Some, slice_get, refl, sym, ◌∙◌, subst, arith}
use Rattle.std.specs.Prelude.{nat_lt}
use Rattle.std.specs.List.{list_any}
use Rattle.std.proofs.lemmas.Option.{slice_get_within}
use Rattle.site_types.specs.declared.answer.Answer.{Answer}
use Rattle.site_types.specs.declared.retained.Retained.{Retained}
use Rattle.site_types.specs.declared.rule.Rule.TheVariants.{A, B}
use Rattle.site_types.specs.declared.site.Site.{Site}
use Rattle.site_types.specs.Done.{Done, cancelled_before, cancels, floor_before, moves_floor}
use Rattle.site_types.specs.Valid.{IsValid}
use Rattle.coincidence_rules.specs.Confirmed.{is_near, is_uncancelled}
use Rattle.coincidence_rules.specs.Counted.{is_counted}
use Rattle.coincidence_rules.specs.Places.{is_detector, is_of, rule_of}
use Rattle.coincidence_rules.proofs.Lists.{same_test}
use Rattle.panel_rules.specs.Answers.{answers}
use Rattle.panel_rules.specs.Moments.{Moment, tick_of, IsRun, HaveAllTurned}
use Rattle.panel_rules.specs.Zones.{panel_of_zone}
use Rattle.panel_rules.proofs.Bools.{any_at, at_any, both, not_false, not_true, parts}
use Rattle.panel_rules.proofs.Floors.{le_from, le_to, lt_from, lt_to}
use Rattle.panel_rules.proofs.Held.{at_panel}
use Rattle.panel_rules.proofs.ValidLayout.{laid_out}
use Rattle.blocked_points.specs.declared.done_operation.DoneOperation.{DoneOperation}
use Rattle.blocked_points.specs.Operations.{done_newest_first}
use Rattle.caused_zones.specs.declared.point_mark.PointMark.{PointMark}
use Rattle.caused_zones.specs.Judging.{is_near_to, mark_at, some_near_to}
use Rattle.caused_zones.specs.Stands.{AreTakenBefore, MarkStands}
use Rattle.caused_zones.specs.Undoing.{undoes_at, was_undone}
use Rattle.caused_zones.proofs.Answered.{counted_in, counted_is}
use Rattle.caused_zones.proofs.ByZone.{undone_A, undone_B, undone_at}
use Rattle.caused_zones.proofs.EachAfter.{below_here, here_below}
use Rattle.caused_zones.proofs.Undone.{last_before, none_undid}

-- marks that stand for the answers up to a tick, with the operations done before it
pub record AreKnown (site : Site) (kept : Retained) (operations : List DoneOperation) (taken now : ℕ) (moments : List Moment) (marks :
    List PointMark) : Type 0 where
  pub valid : IsValid site
  pub run : IsRun site.panels moments
  pub ended : HaveAllTurned site.panels moments
  pub at : tick_of moments ≡ now
  pub are_taken : AreTakenBefore operations now taken
  pub points : length marks ≡ length site.points
  pub stand : (point : ℕ) → MarkStands site kept (done_newest_first operations) (done_newest_first (take taken operations)) moments point
      (mark_at marks point)

module _ (site : Site) (kept : Retained) (operations : List DoneOperation) (taken now : ℕ) (moments : List Moment) (marks : List PointMark) (known :
    AreKnown site kept operations taken now moments marks) (panel : ℕ) where
  abbrev done : List Done
  done = done_newest_first operations

  abbrev before : List Done
  before = done_newest_first (take taken operations)

  abbrev xs : List Answer
  xs = answers site panel moments

  to_mark : (zone within point k : ℕ) (other : Answer) → slice_get xs k ≡ Some other → is_of site zone other.point ≡ true
      → is_counted site kept done other ≡ true → (other.point == point) ≡ false → is_detector site other.point ≡ true
      → now ≤ other.stamp.0 + within → was_undone (undoes_at site other.point) other.stamp.0 before ≡ false
      → some_near_to site marks now within point zone ≡ true
  to_mark zone within point k other is of counts apart detects near lasts =
      let c = counted_is site kept done moments known.valid known.run known.ended panel k other is counts in
      let latest = (known.stand other.point).latest other.stamp.0 c lasts in
      let begins = c.begins in
      let inside = slice_get_within site.points other.point c.asked.plan c.asked.is in
      let size = known.points in
      below_here (is_near_to site marks now within point zone) (length marks) other.point (omega (arith, inside, size))
      (both _ _ (both _ _ of detects)
      (both _ _ (not_true _ apart)
      (both _ _ (lt_to 0 (mark_at marks other.point).last (omega (arith, latest, begins)))
      (le_to (now - (mark_at marks other.point).last) within (omega (arith, near, latest))))))

  -- an answer near enough that lasts
  record NearAnswer (zone within point : ℕ) : Type 0 where
    place : ℕ
    other : Answer
    is : slice_get xs place ≡ Some other
    of : is_of site zone other.point ≡ true
    counts : is_counted site kept done other ≡ true
    apart : not (other.point == point) ≡ true
    detects : is_detector site other.point ≡ true
    near : now ≤ other.stamp.0 + within
    by : other.stamp.0 ≤ now
    begins : 1 ≤ other.stamp.0
    lasts : was_undone (undoes_at site other.point) other.stamp.0 before ≡ false

  from_mark : (zone within point : ℕ) → panel_of_zone site zone ≡ panel → some_near_to site marks now within point zone ≡ true
      → NearAnswer zone within point
  from_mark zone within point own h =
      let g = here_below (is_near_to site marks now within point zone) (length marks) h in
      let q = g.0 in
      let p = parts _ _ g.2 in
      let of = parts _ _ p.0 in
      let r = parts _ _ p.1 in
      let n = parts _ _ r.1 in
      let last = (mark_at marks q).last in
      let one : 1 ≤ last = lt_from 0 last n.0 in
      let close = le_from (now - last) within n.1 in
      let c = (known.stand q).last one in
      let past = c.past in
      let at = known.at in
      let lies = at_panel site zone panel q (laid_out site known.valid) of.0 own in
      let found = counted_in site kept done moments known.valid known.run known.ended panel q last lies.plan lies.is lies.of_panel c in
      let stamp = found.stamp_is in
      record {
        place = found.place;
        other = found.answer;
        is = found.is;
        of = subst (λ k. is_of site zone k ≡ true) (sym found.point_is) of.0;
        counts = found.counts;
        apart = subst (λ k. not (k == point) ≡ true) (sym found.point_is) r.0;
        detects = subst (λ k. is_detector site k ≡ true) (sym found.point_is) of.1;
        near = omega (arith, close, stamp);
        by = omega (arith, stamp, past, at);
        begins = omega (arith, one, stamp);
        lasts = subst (λ k. was_undone (undoes_at site k) found.answer.stamp.0 before ≡ false) (sym found.point_is)
            (subst (λ s. was_undone (undoes_at site q) s before ≡ false) (sym stamp) ((known.stand q).last_lasts one));
      }

  -- an answer that is near to one that was given now, and lasts where no floor came since, is one of a mark
  near_marked : (zone within k : ℕ) (a o : Answer) → a.stamp.0 ≡ now → slice_get xs k ≡ Some o → is_near site kept done within zone a o ≡ true
      → (is_of site zone o.point ≡ true → nat_lt (floor_before site zone now done) o.stamp.0 ≡ true
      → was_undone (undoes_at site o.point) o.stamp.0 before ≡ false) → some_near_to site marks now within a.point zone ≡ true
  near_marked zone within k a o at is near lasts =
      let p = parts _ _ near in
      let s = parts _ _ p.0 in
      let t = parts _ _ s.0 in
      let u = parts _ _ t.0 in
      let v = parts _ _ u.0 in
      let f = parts _ _ t.1 in
      let close = le_from a.stamp.0 (o.stamp.0 + within) p.1 in
      to_mark zone within a.point k o is v.0 v.1 (not_false _ u.1) s.1 (omega (arith, close, at))
      (lasts v.0 (subst (λ x. nat_lt (floor_before site zone x done) o.stamp.0 ≡ true) at f.0))

  marked_near : (zone within : ℕ) (a : Answer) → a.stamp.0 ≡ now → (n : NearAnswer zone within a.point)
      → nat_lt (floor_before site zone now done) n.other.stamp.0 ≡ true → is_near site kept done within zone a n.other ≡ true
  marked_near zone within a at n floor =
      let o = n.other in
      let near = n.near in
      let by = n.by in
      both _ _ (both _ _ (both _ _ (both _ _ (both _ _ n.of n.counts) n.apart)
      (both _ _ (subst (λ x. nat_lt (floor_before site zone x done) o.stamp.0 ≡ true) (sym at) floor)
      (le_to o.stamp.0 a.stamp.0 (omega (arith, by, at))))) n.detects)
      (le_to a.stamp.0 (o.stamp.0 + within) (omega (arith, near, at)))

  -- type A
  pub near_is : (verify within zone : ℕ) (a : Answer) → a.stamp.0 ≡ now → panel_of_zone site zone ≡ panel
      → rule_of (slice_get site.zones zone) ≡ Some (A verify within)
      → list_any (is_near site kept done within zone a) xs ≡ some_near_to site marks now within a.point zone
  near_is verify within zone a at own rule =
      same_test _ _
      (λ h.
      let g = at_any (is_near site kept done within zone a) xs h in
      let o = g.item in
      near_marked zone within g.place a o at g.is g.passes
      (λ of floor. undone_at site zone o.point o.stamp.0 before of ∙ undone_A site zone verify within o.stamp.0 before rule
      ∙ none_undid (moves_floor site zone) o.stamp.0 now operations taken known.are_taken floor))
      (λ h.
      let n = from_mark zone within a.point own h in
      let o = n.other in
      let floor = last_before (moves_floor site zone) o.stamp.0 now operations taken known.are_taken
      (sym (undone_A site zone verify within o.stamp.0 before rule) ∙ sym (undone_at site zone o.point o.stamp.0 before n.of) ∙ n.lasts) n.begins in
      any_at (is_near site kept done within zone a) xs n.place o n.is (marked_near zone within a at n floor))

  -- type B
  pub uncancelled_is : (own_within within zone : ℕ) (a : Answer) → a.stamp.0 ≡ now → panel_of_zone site zone ≡ panel
      → rule_of (slice_get site.zones zone) ≡ Some (B own_within)
      → list_any (is_uncancelled site kept done within zone a) xs ≡ some_near_to site marks now within a.point zone
  uncancelled_is own_within within zone a at own rule =
      same_test _ _
      (λ h.
      let g = at_any (is_uncancelled site kept done within zone a) xs h in
      let o = g.item in
      let whole = parts (is_near site kept done within zone a o) _ g.passes in
      let cancelled : nat_lt (cancelled_before zone now done) o.stamp.0 ≡ true =
      subst (λ x. nat_lt (cancelled_before zone x done) o.stamp.0 ≡ true) at whole.1 in
      near_marked zone within g.place a o at g.is whole.0
      (λ of floor. undone_at site zone o.point o.stamp.0 before of ∙ undone_B site zone own_within o.stamp.0 before rule
      ∙ neither _ _ (none_undid (moves_floor site zone) o.stamp.0 now operations taken known.are_taken floor)
      (none_undid (cancels zone) o.stamp.0 now operations taken known.are_taken cancelled)))
      (λ h.
      let n = from_mark zone within a.point own h in
      let o = n.other in
      let none = of_neither _ _
      (sym (undone_B site zone own_within o.stamp.0 before rule) ∙ sym (undone_at site zone o.point o.stamp.0 before n.of) ∙ n.lasts) in
      let floor = last_before (moves_floor site zone) o.stamp.0 now operations taken known.are_taken none.0 n.begins in
      let cancelled = last_before (cancels zone) o.stamp.0 now operations taken known.are_taken none.1 n.begins in
      any_at (is_uncancelled site kept done within zone a) xs n.place o n.is
      (both _ _ (marked_near zone within a at n floor) (subst (λ x. nat_lt (cancelled_before zone x done) o.stamp.0 ≡ true) (sym at) cancelled)))
    where
      neither : (x y : Bool) → x ≡ false → y ≡ false → (x || y) ≡ false
      neither false y p q = q
      neither true y p q = absurd cc

      of_neither : (x y : Bool) → (x || y) ≡ false → (x ≡ false) × (y ≡ false)
      of_neither false y h = (refl, h)
      of_neither true y h = absurd cc
