-- What operations and ticks make of all that is kept.
use Rattle.std.proofs.Common.{◌≡◌, ℕ, zero, suc, ◌+◌, ◌≤◌, ◌&&◌, Bool, true, false, if◌then◌else◌, Vec, List, [], ◌∷◌, length, get_or, take, Option, Some, None, slice_get, inl, inr, refl}
use Rattle.std.proofs.Common.{sym, ◌∙◌, ap, subst, arith}
use Rattle.std.specs.Vec.{with_items}
use Rattle.std.proofs.lemmas.List.{with_items_is}
use Rattle.std.proofs.lemmas.Bool.{cases_lt}
use Rattle.std.proofs.lemmas.Option.{slice_get_within}
use Rattle.site_types.specs.declared.point.Point.{Point}
use Rattle.site_types.specs.declared.retained.Retained.{Retained}
use Rattle.site_types.specs.declared.site.Site.{Site}
use Rattle.site_types.specs.Done.{Done, moves_floor}
use Rattle.site_types.specs.Profile.{round_of}
use Rattle.site_types.specs.Valid.{IsValid}
use Rattle.coincidence_rules.specs.Alarm.{calls}
use Rattle.coincidence_rules.specs.Confirmed.{confirms}
use Rattle.panel_rules.specs.Answers.{answers}
use Rattle.panel_rules.specs.Due.{SignalsAt}
use Rattle.panel_rules.specs.Moments.{Moment, TickBlock, moments, tick_of}
use Rattle.panel_rules.specs.Records.{AreOrdered}
use Rattle.panel_rules.specs.Zones.{panel_of_zone}
use Rattle.panel_rules.proofs.Bools.{both, parts}
use Rattle.panel_rules.proofs.RecordRuns.{records_are_runs}
use Rattle.run_text.proofs.TickTimes.{tick_moments}
use Rattle.blocked_points.specs.declared.done_operation.DoneOperation.{DoneOperation}
use Rattle.blocked_points.specs.Operations.{done_newest_first}
use Rattle.point_runs.specs.declared.point_run.PointRun.{PointRun}
use Rattle.caused_zones.specs.declared.caused_parts.CausedParts.{CausedParts}
use Rattle.caused_zones.specs.Causes.{cause_with}
use Rattle.caused_zones.specs.Counting.{CountsAt, IsAskedAt}
use Rattle.caused_zones.specs.Judging.{is_called_now, is_confirmed_now, mark_at}
use Rattle.caused_zones.specs.Marks.{AreEachAfter, after_answers, has_run, is_asked_in, is_asked_of, mark_noted, no_mark}
use Rattle.caused_zones.specs.Stands.{AlarmStands, AreTakenBefore, HandStands, MarkStands, PartsAfter, PartsStand, TellSignals, was_given}
use Rattle.caused_zones.specs.Undoing.{cause_unless, mark_unless, undoes_at, was_undone}
use Rattle.caused_zones.proofs.CauseSteps.{cause_after, cause_undone, given_by}
use Rattle.caused_zones.proofs.Confirming.{called_now, confirmed_now}
use Rattle.caused_zones.proofs.Earlier.{block_answers, confirms_front, given_front}
use Rattle.caused_zones.proofs.MarkSteps.{mark_counted, mark_stays}
use Rattle.caused_zones.proofs.MarkUndone.{mark_undone}
use Rattle.caused_zones.proofs.NearAnswers.{AreKnown}
use Rattle.caused_zones.proofs.Undone.{none_is, undone_none}

-- lists that were written through a slice
written : {X Z : Type 0} (items : Vec X Z) (told : List X) → length told ≡ length items.items → (with_items items told).items ≡ told
written items told same = let as_long : length told ≡ items.len = omega (arith, same, items.ok) in with_items_is items told as_long

pub each_put : {X Z : Type 0} (after : ℕ → X → X) (items : Vec X Z) (start told : List X) → start ≡ items.items → AreEachAfter after start told
    → AreEachAfter after items.items (with_items items told).items
each_put after items start told is are =
    let size : length told ≡ length items.items = are.size ∙ ap length is in
    subst (AreEachAfter after items.items) (sym (written items told size)) (subst (λ xs. AreEachAfter after xs told) is are)

pub past_end : {X : Type 0} (xs : List X) (place : ℕ) (other : X) → length xs ≤ place → get_or xs place other ≡ other
past_end [] place other l = refl
past_end (x ∷ xs) zero other l = absurd (omega (arith, l))
past_end (x ∷ xs) (suc place) other l = past_end xs place other (omega (arith, l))

-- ---- operations

pub parts_undone : (site : Site) (kept : Retained) (all taken : List Done) (before : List Moment) (d : Done) (old new : CausedParts)
    → d.tick ≡ tick_of before → AreEachAfter (λ place mark. mark_unless (undoes_at site place d) mark) old.marks.items new.marks.items
    → AreEachAfter (λ zone cause. cause_unless (moves_floor site zone d) d.tick cause) old.alarms.items new.alarms.items
    → AreEachAfter (λ zone cause. cause_unless (moves_floor site zone d) d.tick cause) old.by_hand.items new.by_hand.items
    → PartsStand site kept all taken before old → PartsStand site kept all (d ∷ taken) before new
parts_undone site kept all taken before d old new at marks alarms hands stand = record {
  points = marks.size ∙ stand.points;
  alarm_zones = alarms.size ∙ stand.alarm_zones;
  hand_zones = hands.size ∙ stand.hand_zones;
  marks_stand = λ point. subst (MarkStands site kept all (d ∷ taken) before point) (sym (mark_is point))
      (mark_undone site kept all taken before point (mark_at old.marks.items point) d at (stand.marks_stand point));
  alarms_stand = λ zone other l. (let size = stand.alarm_zones in
      subst (AlarmStands site kept all (d ∷ taken) before zone) (sym (alarms.each zone other (omega (arith, l, size))))
      (cause_undone site kept all taken before zone (tick_of before) _ _ _ (stand.alarms_stand zone other l) d at
      (λ stamp g. given_by site before zone (confirms site kept all (answers site (panel_of_zone site zone) before) zone) stamp g)));
  hands_stand = λ zone other l. (let size = stand.hand_zones in
      subst (HandStands site kept all (d ∷ taken) before zone) (sym (hands.each zone other (omega (arith, l, size))))
      (cause_undone site kept all taken before zone (tick_of before) _ _ _ (stand.hands_stand zone other l) d at
      (λ stamp g. given_by site before zone (calls site kept all zone) stamp g)));
}
  where
    none_unless : (b : Bool) → no_mark ≡ mark_unless b no_mark
    none_unless true = refl
    none_unless false = refl

    mark_is : (point : ℕ) → mark_at new.marks.items point ≡ mark_unless (undoes_at site point d) (mark_at old.marks.items point)
    mark_is point =
        elim (cases_lt point (length old.marks.items)) [
          | inl l ↦ marks.each point no_mark l
          | inr l ↦
              (let size = marks.size in
              past_end new.marks.items point no_mark (omega (arith, l, size))
              ∙ none_unless (undoes_at site point d)
              ∙ ap (mark_unless (undoes_at site point d)) (sym (past_end old.marks.items point no_mark l)))
        ]

-- ---- the answers of a tick

module _ (site : Site) (kept : Retained) (operations : List DoneOperation) (taken : ℕ) (ticks : List TickBlock) (tick : TickBlock) (runs :
    List PointRun) (valid : IsValid site) (ordered : AreOrdered site.panels (tick ∷ ticks)) (tell :
    TellSignals site kept operations (tick ∷ ticks) runs) where
  abbrev done : List Done
  done = done_newest_first operations

  abbrev before : List Done
  before = done_newest_first (take taken operations)

  abbrev old_moments : List Moment
  old_moments = moments ticks

  abbrev new_moments : List Moment
  new_moments = moments (tick ∷ ticks)

  abbrev now : ℕ
  now = tick_of new_moments

  now_is : now ≡ length ticks + 1
  now_is = let e = tick_moments (tick ∷ ticks) in omega (arith, e)

  old_is : tick_of old_moments ≡ length ticks
  old_is = tick_moments ticks

  asked_is : (point : ℕ) (o : Option Point) → slice_get site.points point ≡ o → is_asked_of (round_of site.format) now o ≡ true
      → IsAskedAt site point now
  asked_is point None is h = absurd cc
  asked_is point (Some plan) is h = record { plan = plan; is = is; asked = h }

  is_asked_there : (point : ℕ) → IsAskedAt site point now → is_asked_in site (round_of site.format) now point ≡ true
  is_asked_there point asks = ap (is_asked_of (round_of site.format) now) asks.is ∙ asks.asked

  signals_is : (point : ℕ) → has_run runs point ≡ true → SignalsAt site kept done new_moments point now
  signals_is point h =
      subst (SignalsAt site kept done new_moments point) (let e = tick_moments (tick ∷ ticks) in sym e) (tell.some point h)

  counts_is : (point : ℕ) → (has_run runs point && is_asked_in site (round_of site.format) now point) ≡ true
      → CountsAt site kept done new_moments point now
  counts_is point h =
      let p = parts (has_run runs point) (is_asked_in site (round_of site.format) now point) h in
      record {
        begins = (let e = now_is in omega (arith, e));
        past = omega arith;
        asked = asked_is point (slice_get site.points point) refl p.1;
        signals = signals_is point p.0;
      }

  is_counted_there : (point : ℕ) → CountsAt site kept done new_moments point now
      → (has_run runs point && is_asked_in site (round_of site.format) now point) ≡ true
  is_counted_there point c =
      both (has_run runs point) (is_asked_in site (round_of site.format) now point)
      (tell.all point (slice_get_within site.points point c.asked.plan c.asked.is)
      (subst (SignalsAt site kept done new_moments point) (tick_moments (tick ∷ ticks)) c.signals))
      (is_asked_there point c.asked)

  module _ (are : AreTakenBefore operations now taken) (old new : CausedParts) (stand : PartsAfter site kept operations taken ticks old)
      (marks : AreEachAfter (after_answers site (round_of site.format) now runs) old.marks.items new.marks.items) where
    none_now : (test : Done → Bool) → was_undone test now before ≡ false
    none_now test = undone_none test now operations taken are (let e = now_is in omega (arith, e))

    mark_after : (point : ℕ) → MarkStands site kept done before new_moments point
        (after_answers site (round_of site.format) now runs point (mark_at old.marks.items point))
    mark_after point = go (has_run runs point && is_asked_in site (round_of site.format) now point) refl
      where
        go : (b : Bool) → (has_run runs point && is_asked_in site (round_of site.format) now point) ≡ b
            → MarkStands site kept done before new_moments point
            (if b then mark_noted (round_of site.format) now (mark_at old.marks.items point) else mark_at old.marks.items point)
        go true e =
            mark_counted site kept done tick ticks point before (mark_at old.marks.items point) valid (stand.marks_stand point) now now_is
            (counts_is point e) none_now
        go false e =
            mark_stays site kept done tick ticks point before (mark_at old.marks.items point) valid (stand.marks_stand point)
            (λ c. differ (has_run runs point && is_asked_in site (round_of site.format) now point)
            (is_counted_there point (subst (CountsAt site kept done new_moments point) (sym now_is) c)) e)
          where
            differ : (x : Bool) → x ≡ true → x ≡ false → ⊥
            differ true p q = absurd cc
            differ false p q = absurd cc

    mark_is : (point : ℕ) → MarkStands site kept done before new_moments point (mark_at new.marks.items point)
    mark_is point =
        elim (cases_lt point (length old.marks.items)) [
          | inl l ↦ subst (MarkStands site kept done before new_moments point) (sym (marks.each point no_mark l)) (mark_after point)
          | inr l ↦
              (let size = marks.size in
              let points = stand.points in
              let same : mark_at new.marks.items point ≡ mark_at old.marks.items point =
              past_end new.marks.items point no_mark (omega (arith, l, size)) ∙ sym (past_end old.marks.items point no_mark l) in
              subst (MarkStands site kept done before new_moments point) (sym same)
              (mark_stays site kept done tick ticks point before (mark_at old.marks.items point) valid (stand.marks_stand point)
              (λ c. (let inside = slice_get_within site.points point c.asked.plan c.asked.is in omega (arith, inside, l, points)))))
        ]

    pub known : AreKnown site kept operations taken now new_moments new.marks.items
    known = record {
      valid = valid;
      run = (records_are_runs site.panels (tick ∷ ticks) ordered).0;
      ended = (records_are_runs site.panels (tick ∷ ticks) ordered).1;
      at = refl;
      are_taken = are;
      points = marks.size ∙ stand.points;
      stand = mark_is;
    }

    one : 1 ≤ now
    one = let e = now_is in omega (arith, e)

    next : now ≡ tick_of old_moments + 1
    next = let a = now_is in let b = old_is in omega (arith, a, b)

    confirms_same : (zone stamp : ℕ) → stamp ≤ tick_of old_moments
        → was_given site new_moments zone (confirms site kept done (answers site (panel_of_zone site zone) new_moments) zone) stamp
        ≡ was_given site old_moments zone (confirms site kept done (answers site (panel_of_zone site zone) old_moments) zone) stamp
    confirms_same zone stamp by =
        let panel = panel_of_zone site zone in
        let come = block_answers site panel tick ticks in
        let e = next in
        given_front (λ xs a. confirms site kept done xs zone a) (answers site panel old_moments) (answers site panel new_moments) now come
        (λ a early. confirms_front site kept done (answers site panel old_moments) come.more a
        (λ k b h. (let s = come.stamps k b h in omega (arith, s, early))) zone) stamp (omega (arith, by, e))

    calls_same : (zone stamp : ℕ) → stamp ≤ tick_of old_moments
        → was_given site new_moments zone (calls site kept done zone) stamp ≡ was_given site old_moments zone (calls site kept done zone) stamp
    calls_same zone stamp by =
        let panel = panel_of_zone site zone in
        let e = next in
        given_front (λ xs a. calls site kept done zone a) (answers site panel old_moments) (answers site panel new_moments) now
        (block_answers site panel tick ticks) (λ a early. refl) stamp (omega (arith, by, e))

    pub parts_answered : AreEachAfter (λ zone cause. cause_with (is_confirmed_now site new.marks.items now zone) cause) old.alarms.items new.alarms.items
        → AreEachAfter (λ zone cause. cause_with (is_called_now site new.marks.items now zone) cause) old.by_hand.items new.by_hand.items
        → PartsAfter site kept operations taken (tick ∷ ticks) new
    parts_answered alarms hands = record {
      points = marks.size ∙ stand.points;
      alarm_zones = alarms.size ∙ stand.alarm_zones;
      hand_zones = hands.size ∙ stand.hand_zones;
      marks_stand = mark_is;
      alarms_stand = λ zone other l. (let size = stand.alarm_zones in
          subst (AlarmStands site kept done before new_moments zone) (sym (alarms.each zone other (omega (arith, l, size))))
          (cause_after site kept done before old_moments new_moments zone
          (confirms site kept done (answers site (panel_of_zone site zone) old_moments) zone)
          (confirms site kept done (answers site (panel_of_zone site zone) new_moments) zone) (get_or old.alarms.items zone other) (tick_of old_moments)
          now next refl refl (stand.alarms_stand zone other l) (confirms_same zone)
          (λ first. none_is (moves_floor site zone) first now operations taken are) (none_now (moves_floor site zone))
          (is_confirmed_now site new.marks.items now zone)
          (confirmed_now site kept operations taken now new_moments new.marks.items known zone one)));
      hands_stand = λ zone other l. (let size = stand.hand_zones in
          subst (HandStands site kept done before new_moments zone) (sym (hands.each zone other (omega (arith, l, size))))
          (cause_after site kept done before old_moments new_moments zone (calls site kept done zone) (calls site kept done zone)
          (get_or old.by_hand.items zone other) (tick_of old_moments) now next refl refl (stand.hands_stand zone other l) (calls_same zone)
          (λ first. none_is (moves_floor site zone) first now operations taken are) (none_now (moves_floor site zone))
          (is_called_now site new.marks.items now zone)
          (called_now site kept operations taken now new_moments new.marks.items known zone one)));
    }
