-- A zone that has had a signal for a round is in alarm by what its panel's Hold has taken, whatever the order of turns.
use Rattle.std.proofs.Common.{◌≡◌, ℕ, ◌+◌, ◌-◌, ◌≤◌, ◌<◌, ◌==◌, ◌||◌, List, Some, slice_get, ◌⊎◌, inl, inr, Bool, true, false, not, ◌≢◌, refl, sym, ◌∙◌, ap, subst, arith}
use Rattle.std.specs.List.{list_any}
use Rattle.std.proofs.lemmas.Bool.{eqb-true}
use Rattle.std.proofs.lemmas.Bool.Decides.{eqb_tells}
use Rattle.tick_units.specs.declared.task.Task.TheVariants.{Hold}
use Rattle.site_types.specs.declared.site.Site.{Site}
use Rattle.site_types.specs.declared.answer.Answer.{Answer}
use Rattle.site_types.specs.declared.retained.Retained.{Retained}
use Rattle.site_types.specs.declared.rule.Rule.TheVariants.{Plain, A, B, C}
use Rattle.site_types.specs.Done.{Done, moves_floor, cancels, floor_before}
use Rattle.site_types.specs.Profile.{round_of}
use Rattle.coincidence_rules.specs.Places.{is_of, is_detector, rule_of, pairs_up}
use Rattle.coincidence_rules.specs.Counted.{is_counted}
use Rattle.coincidence_rules.specs.Confirmed.{is_second, is_near, is_uncancelled, is_between, counts_throughout, is_first_of_run, is_verified, is_by_call_point, confirms}
use Rattle.coincidence_rules.specs.Alarm.{since_floor, calls, has_second, releases_by, releases}
use Rattle.panel_rules.specs.Moments.{Moment, tick_of, IsPanel, IsRun, IsPast, latest_turn}
use Rattle.panel_rules.specs.Answers.{answers}
use Rattle.panel_rules.specs.Counts.{taken_by_hold}
use Rattle.panel_rules.specs.Zones.{held_answers, panel_of_zone, holds_alarm, holds_by_hand, holds_released}
use Rattle.panel_rules.proofs.SiteLayout.{IsLaidOut}
use Rattle.panel_rules.specs.Due.{NoFloor, NoCancelling, SignalsAt, TwoHeld, CallPointSignals, PointSignals}
use Rattle.panel_rules.specs.Due.{DetectorSignals, DetectorsSignal, PairSignals, SecondSignals, Signals}
use Rattle.panel_rules.specs.Due.{by_call_point, by_one, by_itself, by_two, by_pair, SignalsOut, by_signal, by_hand}
use Rattle.panel_rules.specs.Due.{by_second}
use Rattle.panel_rules.proofs.Bools.{both, parts, either_left, either_right, not_true, any_at, all_by}
use Rattle.panel_rules.proofs.Places.{take_get}
use Rattle.panel_rules.proofs.Floors.{none_since, lt_to, le_to, le_from}
use Rattle.panel_rules.proofs.Turns.{turn_lag, run_tail, tick_rises}
use Rattle.panel_rules.proofs.AnswersTell.{told_by, eq_true}
use Rattle.panel_rules.proofs.Held.{signal_counts, IsAtPanel, at_panel, round_counts}
use Rattle.panel_rules.proofs.Pairing.{kind_of, Pairs, pairs_of, of_pairs, swapped, pair_panels}
use Rattle.panel_rules.proofs.Signals.{Sure, sure_by, sure_counted, sure_since, by_call, by_rule, hand_releases, alarm_releases, TwoCount, two_in_order}

module _ (site : Site) (kept : Retained) (done : List Done) (moments past : List Moment) (panel zone : ℕ) (laid : IsLaidOut site) (run :
    IsRun site.panels moments) (before : IsPast past moments) (p : IsPanel site.panels panel) (home : panel_of_zone site zone ≡ panel) where
  -- what Hold has taken is not stamped after now
  late_by : latest_turn panel Hold past ≤ tick_of moments
  late_by = omega (arith, turn_lag site.panels panel Hold past p tt (run_tail site.panels past moments before run), tick_rises past moments before)

  -- with no floor in a span, a floor before one of its ticks lies before the span
  floor_since : (z first last x : ℕ) → 1 ≤ first → x ≤ last → NoFloor site done z first last → floor_before site z x done < first
  floor_since z first last x one l h = none_since (moves_floor site z) first last x done one l h

  -- an answer from the first tick on makes the zone so
  holds_since : (first : ℕ) (test : Answer → Bool) → 1 ≤ first → NoFloor site done zone first (tick_of moments)
      → Sure (held_answers site panel past) first test → since_floor site done (held_answers site panel past) zone (latest_turn panel Hold past) test
      ≡ true
  holds_since first test one floor sure =
      sure_since site done (held_answers site panel past) zone (latest_turn panel Hold past) first test
      (floor_since zone first (tick_of moments) (latest_turn panel Hold past) one late_by floor) sure

  -- a manual call point
  call_sure : (settled : ℕ) → CallPointSignals site kept done moments zone (tick_of moments) settled
      → settled + round_of site.format + 1 ≤ latest_turn panel Hold past → Sure (held_answers site panel past) settled (calls site kept done zone)
  call_sure settled s late =
      let at = at_panel site zone panel s.point laid (parts _ _ s.calls).0 home in
      let c = round_counts site kept done moments past panel run before p s.point settled laid at s.begins late s.held in
      sure_counted c (both _ _ c.counts (ap (λ q. is_by_call_point site zone q) c.point_is ∙ s.calls))

  call_confirms : (settled : ℕ) → Sure (held_answers site panel past) settled (calls site kept done zone)
      → Sure (held_answers site panel past) settled (confirms site kept done (held_answers site panel past) zone)
  call_confirms settled s =
      let xs = held_answers site panel past in
      sure_by xs settled (calls site kept done zone) (confirms site kept done xs zone)
      (λ a h. by_call site kept done xs zone a (parts _ _ h).0 (parts _ _ h).1) s

  -- a point of a zone of type none or C
  one_sure : (settled : ℕ) → PointSignals site kept done moments zone (tick_of moments) settled
      → settled + round_of site.format + 1 ≤ latest_turn panel Hold past
      → Sure (held_answers site panel past) settled (confirms site kept done (held_answers site panel past) zone)
  one_sure settled s late =
      let xs = held_answers site panel past in
      let at = at_panel site zone panel s.point laid s.of_zone home in
      let c = round_counts site kept done moments past panel run before p s.point settled laid at s.begins late s.held in
      let of_zone : is_of site zone c.answer.point ≡ true = ap (λ q. is_of site zone q) c.point_is ∙ s.of_zone in
      sure_counted c
      (elim (kind_of site zone c.answer.point of_zone) [
        | inl m ↦ by_call site kept done xs zone c.answer c.counts (both _ _ of_zone m)
        | inr d ↦
            elim s.rule [
              | inl r ↦ by_rule site kept done xs zone c.answer (Some Plain) r c.counts d of_zone
              | inr r ↦ by_rule site kept done xs zone c.answer (Some C) r c.counts d of_zone
            ]
      ])

  -- each answer of a point between two stamps counts, where the point signals throughout
  throughout : (point first last : ℕ) → ((tick : ℕ) → first ≤ tick → tick ≤ last → SignalsAt site kept done moments point tick)
      → counts_throughout site kept done (held_answers site panel past) point first last ≡ true
  throughout point first last signals = all_by _ (held_answers site panel past) each
    where
      each : (k : ℕ) (a : Answer) → slice_get (held_answers site panel past) k ≡ Some a
          → (not (is_between point first last a) || is_counted site kept done a) ≡ true
      each k a h = go (is_between point first last a) refl
        where
          go : (b : Bool) → is_between point first last a ≡ b → (not b || is_counted site kept done a) ≡ true
          go false e = refl
          go true e =
              let q = parts _ _ e in
              let r = parts _ _ q.1 in
              let tells =
              told_by site site.panels panel moments past k a run before
              (take_get (taken_by_hold site panel past) (answers site panel past) k a h).1 in
              let signal = signals a.stamp.0 (le_from first a.stamp.0 r.0) (le_from a.stamp.0 last r.1) in
              signal_counts site kept done panel moments a tells
              (subst (λ w. SignalsAt site kept done moments w a.stamp.0) (sym (eqb-true a.point point q.0)) signal)

  -- one detector of type A
  itself_sure : (settled : ℕ) (s : DetectorSignals site kept done moments zone (tick_of moments) settled)
      → settled + round_of site.format + 1 ≤ latest_turn panel Hold past
      → Sure (held_answers site panel past) s.first (confirms site kept done (held_answers site panel past) zone)
  itself_sure settled s late =
      let xs = held_answers site panel past in
      let round = round_of site.format in
      let wide : 12 ≤ round = omega (arith, laid.format.0) in
      let at = at_panel site zone panel s.point laid s.of_zone home in
      let y =
      round_counts site kept done moments past panel run before p s.point s.first laid at s.begins (omega (arith, late, s.settles))
      (λ tick l u. s.signals tick l (omega (arith, l, u, wide))) in
      let start = s.first + s.verify + (round - 1) in
      let x =
      round_counts site kept done moments past panel run before p s.point start laid at (omega (arith, s.begins))
      (omega (arith, late, s.settles, wide)) (λ tick l u. s.signals tick (omega (arith, l)) (omega (arith, u, wide))) in
      let of_zone : is_of site zone x.answer.point ≡ true = ap (λ q. is_of site zone q) x.point_is ∙ s.of_zone in
      let detects : is_detector site x.answer.point ≡ true = ap (λ q. is_detector site q) x.point_is ∙ s.detects in
      let ended : x.answer.stamp.0 ≤ tick_of moments = omega (arith, x.by, late, s.settles, late_by) in
      let floor = floor_since zone s.first (tick_of moments) x.answer.stamp.0 s.begins ended s.floor in
      let after : floor_before site zone x.answer.stamp.0 done < y.answer.stamp.0 = omega (arith, floor, y.from) in
      let far : y.answer.stamp.0 + s.verify ≤ x.answer.stamp.0 = omega (arith, y.by, x.from, wide) in
      let first_of_run : is_first_of_run site kept done s.verify zone x.answer y.answer ≡ true =
      both _ _ (both _ _ (eq_true _ _ (y.point_is ∙ sym x.point_is)) y.counts)
      (both _ _ (lt_to (floor_before site zone x.answer.stamp.0 done) y.answer.stamp.0 after)
      (le_to (y.answer.stamp.0 + s.verify) x.answer.stamp.0 far)) in
      let through : counts_throughout site kept done xs x.answer.point y.answer.stamp.0 x.answer.stamp.0 ≡ true =
      throughout x.answer.point y.answer.stamp.0 x.answer.stamp.0
      (λ tick l u. subst (λ w. SignalsAt site kept done moments w tick) (sym x.point_is)
      (s.signals tick (omega (arith, l, y.from)) (omega (arith, u, x.by, wide)))) in
      let verified : is_verified site kept done xs s.verify zone x.answer ≡ true =
      any_at _ xs y.place y.answer y.is (both _ _ first_of_run through) in
      record {
        place = x.place;
        answer = x.answer;
        is = x.is;
        from = omega (arith, x.from);
        passes =
            by_rule site kept done xs zone x.answer (Some (A s.verify s.within)) s.rule x.counts detects
            (both _ _ of_zone (either_left _ _ verified));
      }

  -- of two answers the earlier one is a second of the later one, where its zone has no floor in a span round both
  seconds : (z one other first last beyond : ℕ) (two : TwoCount site kept done (held_answers site panel past) one other first last) → 1 ≤ first
      → last ≤ beyond + 1 → one ≢ other → is_of site z other ≡ true → NoFloor site done z first beyond
      → is_second site kept done z two.later.answer two.earlier.answer ≡ true
  seconds z one other first last beyond two begins l differ of_zone floor =
      both _ _
      (both _ _
      (both _ _ (ap (λ q. is_of site z q) two.earlier.point_is ∙ of_zone) two.earlier.counts)
      (not_true _ (not_same two.earlier.answer.point two.later.answer.point (λ e. differ (sym two.later.point_is ∙ sym e ∙ two.earlier.point_is)))))
      (both _ _
      (lt_to _ _ (omega (arith, floor_since z first beyond two.later.answer.stamp.0 begins (omega (arith, two.later.by, l)) floor, two.earlier.from)))
      (le_to _ _ two.in_order))
    where
      not_same : (a b : ℕ) → a ≢ b → (a == b) ≡ false
      not_same a b n = elim (eqb_tells a b) [ inl h ↦ absurd (n h.1) | inr h ↦ h.0 ]

  nears : (within z one other first last beyond : ℕ) (two : TwoCount site kept done (held_answers site panel past) one other first last) → 1 ≤ first
      → last ≤ beyond + 1 → last ≤ first + within + 1 → one ≢ other → is_of site z other ≡ true → is_detector site other ≡ true
      → NoFloor site done z first beyond → is_near site kept done within z two.later.answer two.earlier.answer ≡ true
  nears within z one other first last beyond two begins l near differ of_zone detects floor =
      both _ _
      (both _ _ (seconds z one other first last beyond two begins l differ of_zone floor)
      (ap (λ q. is_detector site q) two.earlier.point_is ∙ detects))
      (le_to _ _ (omega (arith, two.later.by, near, two.earlier.from)))

  -- both rounds of two points are counted
  two_count : (one other first second : ℕ) → TwoHeld site kept done moments one other first second → IsAtPanel site panel one
      → IsAtPanel site panel other → second + round_of site.format + 1 ≤ latest_turn panel Hold past
      → TwoCount site kept done (held_answers site panel past) other one first (second + round_of site.format)
      ⊎ TwoCount site kept done (held_answers site panel past) one other first (second + round_of site.format)
  two_count one other first second h at bt late =
      let f = round_counts site kept done moments past panel run before p one first laid at h.begins (omega (arith, late, h.follows)) h.first_held in
      let s = round_counts site kept done moments past panel run before p other second laid bt (omega (arith, h.begins, h.follows)) late h.second_held
      in
      two_in_order site kept done (held_answers site panel past) one other first second (round_of site.format) h.follows f s

  -- two detectors of type A
  two_confirm : (verify within one other first last : ℕ) (two : TwoCount site kept done (held_answers site panel past) one other first last)
      → rule_of (slice_get site.zones zone) ≡ Some (A verify within) → 1 ≤ first → last ≤ tick_of moments + 1 → last ≤ first + within + 1
      → one ≢ other → is_of site zone one ≡ true → is_of site zone other ≡ true → is_detector site one ≡ true → is_detector site other ≡ true
      → NoFloor site done zone first (tick_of moments)
      → Sure (held_answers site panel past) first (confirms site kept done (held_answers site panel past) zone)
  two_confirm verify within one other first last two rule begins l near differ one_of other_of one_detects other_detects floor =
      let xs = held_answers site panel past in
      let a = two.later.answer in
      let close =
      any_at (is_near site kept done within zone a) xs two.earlier.place two.earlier.answer two.earlier.is
      (nears within zone one other first last (tick_of moments) two begins l near differ other_of other_detects floor) in
      sure_counted two.later
      (by_rule site kept done xs zone a (Some (A verify within)) rule two.later.counts (ap (λ q. is_detector site q) two.later.point_is ∙ one_detects)
      (both _ _ (ap (λ q. is_of site zone q) two.later.point_is ∙ one_of) (either_right _ _ close)))

  two_sure : (settled : ℕ) (s : DetectorsSignal site kept done moments zone (tick_of moments) settled)
      → settled + round_of site.format + 1 ≤ latest_turn panel Hold past
      → Sure (held_answers site panel past) s.first (confirms site kept done (held_answers site panel past) zone)
  two_sure settled s late =
      let last : settled + round_of site.format ≤ tick_of moments + 1 = omega (arith, late, late_by) in
      elim (two_count s.first_point s.second_point s.first settled s.held (at_panel site zone panel s.first_point laid s.first_of_zone home)
      (at_panel site zone panel s.second_point laid s.second_of_zone home) late) [
        | inl two ↦ two_confirm s.verify s.within s.second_point s.first_point s.first (settled + round_of site.format) two s.rule s.held.begins last
            s.near (λ e. s.held.differ (sym e)) s.second_of_zone s.first_of_zone s.second_detects s.first_detects s.floor
        | inr two ↦ two_confirm s.verify s.within s.first_point s.second_point s.first (settled + round_of site.format) two s.rule s.held.begins last
            s.near s.held.differ s.first_of_zone s.second_of_zone s.first_detects s.second_detects s.floor
      ]

  -- two detectors of type B
  pair_confirm : (within one other first last : ℕ) (two : TwoCount site kept done (held_answers site panel past) one other first last)
      → rule_of (slice_get site.zones zone) ≡ Some (B within) → 1 ≤ first → last ≤ first + within + 1 → one ≢ other → Pairs site zone one other
      → is_detector site one ≡ true → is_detector site other ≡ true → ((z : ℕ) → is_of site z other ≡ true → NoFloor site done z first last)
      → ((z : ℕ) → is_of site z other ≡ true → NoCancelling done z first last)
      → Sure (held_answers site panel past) first (confirms site kept done (held_answers site panel past) zone)
  pair_confirm within one other first last two rule begins near differ pairs one_detects other_detects floors cancellings =
      let xs = held_answers site panel past in
      let a = two.later.answer in
      let test : (z : ℕ) → is_of site z other ≡ true → list_any (is_uncancelled site kept done within z a) xs ≡ true =
      λ z of_zone. any_at (is_uncancelled site kept done within z a) xs two.earlier.place two.earlier.answer two.earlier.is
      (both _ _ (nears within z one other first last last two begins (omega arith) near differ of_zone other_detects (floors z of_zone))
      (lt_to _ _ (omega (
        arith,
        none_since (cancels z) first last a.stamp.0 done begins (omega (arith, two.later.by)) (cancellings z of_zone),
        two.earlier.from,
      )))) in
      sure_counted two.later
      (by_rule site kept done xs zone a (Some (B within)) rule two.later.counts (ap (λ q. is_detector site q) two.later.point_is ∙ one_detects)
      (ap (λ q. pairs_up site zone q (λ near. list_any (is_uncancelled site kept done within near a) xs)) two.later.point_is
      ∙ of_pairs site zone one other (λ near. list_any (is_uncancelled site kept done within near a) xs) test pairs))

  pair_sure : (settled : ℕ) (s : PairSignals site kept done moments zone (tick_of moments) settled)
      → settled + round_of site.format + 1 ≤ latest_turn panel Hold past
      → Sure (held_answers site panel past) s.first (confirms site kept done (held_answers site panel past) zone)
  pair_sure settled s late =
      let pairs = pairs_of site zone s.first_point s.second_point s.pairs in
      let at = pair_panels site zone panel s.first_point s.second_point laid home pairs in
      elim (two_count s.first_point s.second_point s.first settled s.held at.0 at.1 late) [
        | inl two ↦
            pair_confirm s.within s.second_point s.first_point s.first (settled + round_of site.format) two s.rule s.held.begins s.near
            (λ e. s.held.differ (sym e)) (swapped site zone s.first_point s.second_point pairs) s.second_detects s.first_detects
            (λ z h. s.floors z (either_left _ _ h)) (λ z h. s.cancellings z (either_left _ _ h))
        | inr two ↦
            pair_confirm s.within s.first_point s.second_point s.first (settled + round_of site.format) two s.rule s.held.begins s.near s.held.differ
            pairs s.first_detects s.second_detects
            (λ z h. s.floors z (either_right _ _ h)) (λ z h. s.cancellings z (either_right _ _ h))
      ]

  -- two points of type C
  second_release : (one other first last : ℕ) (two : TwoCount site kept done (held_answers site panel past) one other first last)
      → rule_of (slice_get site.zones zone) ≡ Some C → 1 ≤ first → one ≢ other → Pairs site zone one other
      → ((z : ℕ) → is_of site z other ≡ true → NoFloor site done z first last)
      → Sure (held_answers site panel past) first (releases site kept done (held_answers site panel past) zone)
  second_release one other first last two rule begins differ pairs floors =
      let xs = held_answers site panel past in
      let a = two.later.answer in
      let test : (z : ℕ) → is_of site z other ≡ true → list_any (is_second site kept done z a) xs ≡ true =
      λ z of_zone. any_at (is_second site kept done z a) xs two.earlier.place two.earlier.answer two.earlier.is
      (seconds z one other first last last two begins (omega arith) differ of_zone (floors z of_zone)) in
      let has : has_second site kept done xs zone a ≡ true =
      both _ _ two.later.counts
      (ap (λ q. pairs_up site zone q (λ z. list_any (is_second site kept done z a) xs)) two.later.point_is
      ∙ of_pairs site zone one other (λ z. list_any (is_second site kept done z a) xs) test pairs) in
      sure_counted two.later (ap (λ r. releases_by site kept done xs zone r a) rule ∙ either_right _ _ has)

  second_sure : (settled : ℕ) (s : SecondSignals site kept done moments zone (tick_of moments) settled)
      → settled + round_of site.format + 1 ≤ latest_turn panel Hold past
      → Sure (held_answers site panel past) s.first (releases site kept done (held_answers site panel past) zone)
  second_sure settled s late =
      let pairs = pairs_of site zone s.first_point s.second_point s.pairs in
      let at = pair_panels site zone panel s.first_point s.second_point laid home pairs in
      elim (two_count s.first_point s.second_point s.first settled s.held at.0 at.1 late) [
        | inl two ↦ second_release s.second_point s.first_point s.first (settled + round_of site.format) two s.rule s.held.begins
            (λ e. s.held.differ (sym e)) (swapped site zone s.first_point s.second_point pairs) (λ z h. s.floors z (either_left _ _ h))
        | inr two ↦ second_release s.first_point s.second_point s.first (settled + round_of site.format) two s.rule s.held.begins s.held.differ pairs
            (λ z h. s.floors z (either_right _ _ h))
      ]

  -- a zone whose signal counts from a round before Hold's latest turn is in alarm
  pub signal_holds : (settled : ℕ) → Signals site kept done moments zone (tick_of moments) settled
      → settled + round_of site.format + 1 ≤ latest_turn panel Hold past → holds_alarm site kept done panel past zone ≡ true
  signal_holds settled (by_call_point s) late =
      holds_since settled (confirms site kept done (held_answers site panel past) zone) s.begins s.floor
      (call_confirms settled (call_sure settled s late))
  signal_holds settled (by_one s) late =
      holds_since settled (confirms site kept done (held_answers site panel past) zone) s.begins s.floor (one_sure settled s late)
  signal_holds settled (by_itself s) late =
      holds_since s.first (confirms site kept done (held_answers site panel past) zone) s.begins s.floor (itself_sure settled s late)
  signal_holds settled (by_two s) late =
      holds_since s.first (confirms site kept done (held_answers site panel past) zone) s.held.begins s.floor (two_sure settled s late)
  signal_holds settled (by_pair s) late =
      holds_since s.first (confirms site kept done (held_answers site panel past) zone) s.held.begins s.floor (pair_sure settled s late)

  -- by hand
  pub hand_holds : (settled : ℕ) → CallPointSignals site kept done moments zone (tick_of moments) settled
      → settled + round_of site.format + 1 ≤ latest_turn panel Hold past → holds_by_hand site kept done panel past zone ≡ true
  hand_holds settled s late = holds_since settled (calls site kept done zone) s.begins s.floor (call_sure settled s late)

  -- released
  released_by_alarm : (first : ℕ) → rule_of (slice_get site.zones zone) ≢ Some C
      → Sure (held_answers site panel past) first (confirms site kept done (held_answers site panel past) zone)
      → Sure (held_answers site panel past) first (releases site kept done (held_answers site panel past) zone)
  released_by_alarm first n s =
      let xs = held_answers site panel past in
      sure_by xs first (confirms site kept done xs zone) (releases site kept done xs zone)
      (λ a. alarm_releases site kept done xs zone a (rule_of (slice_get site.zones zone)) n) s

  released_by_hand : (first : ℕ) → Sure (held_answers site panel past) first (calls site kept done zone)
      → Sure (held_answers site panel past) first (releases site kept done (held_answers site panel past) zone)
  released_by_hand first s =
      let xs = held_answers site panel past in
      sure_by xs first (calls site kept done zone) (releases site kept done xs zone)
      (λ a. hand_releases site kept done xs zone a (rule_of (slice_get site.zones zone))) s

  alarm_out : (settled : ℕ) → rule_of (slice_get site.zones zone) ≢ Some C → Signals site kept done moments zone (tick_of moments) settled
      → settled + round_of site.format + 1 ≤ latest_turn panel Hold past → holds_released site kept done panel past zone ≡ true
  alarm_out settled n (by_call_point s) late =
      holds_since settled (releases site kept done (held_answers site panel past) zone) s.begins s.floor
      (released_by_hand settled (call_sure settled s late))
  alarm_out settled n (by_one s) late =
      holds_since settled (releases site kept done (held_answers site panel past) zone) s.begins s.floor
      (released_by_alarm settled n (one_sure settled s late))
  alarm_out settled n (by_itself s) late =
      holds_since s.first (releases site kept done (held_answers site panel past) zone) s.begins s.floor
      (released_by_alarm s.first n (itself_sure settled s late))
  alarm_out settled n (by_two s) late =
      holds_since s.first (releases site kept done (held_answers site panel past) zone) s.held.begins s.floor
      (released_by_alarm s.first n (two_sure settled s late))
  alarm_out settled n (by_pair s) late =
      holds_since s.first (releases site kept done (held_answers site panel past) zone) s.held.begins s.floor
      (released_by_alarm s.first n (pair_sure settled s late))

  pub out_holds : (settled : ℕ) → SignalsOut site kept done moments zone (tick_of moments) settled
      → settled + round_of site.format + 1 ≤ latest_turn panel Hold past → holds_released site kept done panel past zone ≡ true
  out_holds settled (by_signal n s) late = alarm_out settled n s late
  out_holds settled (by_hand s) late =
      holds_since settled (releases site kept done (held_answers site panel past) zone) s.begins s.floor
      (released_by_hand settled (call_sure settled s late))
  out_holds settled (by_second s) late =
      holds_since s.first (releases site kept done (held_answers site panel past) zone) s.held.begins s.floor (second_sure settled s late)
