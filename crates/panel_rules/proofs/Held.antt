-- A point that signals is answered, the answer counts, and Hold has it in time.
use Rattle.std.proofs.Common.{◌≡◌, ℕ, ◌+◌, ◌-◌, ◌/◌, ◌≤◌, ◌<◌, List, Option, Some, None, slice_get, Bool, true, false, refl, sym, ◌∙◌, ap, subst, arith}
use Rattle.std.proofs.lemmas.Bool.{eqb-true}
use Rattle.tick_units.specs.declared.task.Task.TheVariants.{Poll, Hold}
use Rattle.site_types.specs.declared.site.Site.{Site}
use Rattle.site_types.specs.declared.answer.Answer.{Answer}
use Rattle.site_types.specs.declared.point.Point.{Point}
use Rattle.site_types.specs.declared.zone.Zone.{Zone}
use Rattle.site_types.specs.declared.retained.Retained.{Retained}
use Rattle.site_types.specs.Done.{Done}
use Rattle.site_types.specs.Profile.{round_of}
use Rattle.coincidence_rules.specs.Places.{is_of, lies_in, on_zone, partner_of, on_partner}
use Rattle.coincidence_rules.specs.Counted.{is_alarm, is_counted}
use Rattle.panel_rules.specs.Moments.{Moment, tick_of, has_turned, IsPanel, IsRun, IsPast, latest_turn, up_to}
use Rattle.panel_rules.specs.States.{state_of}
use Rattle.loop_poller.specs.Asked.{heard_of, is_asked}
use Rattle.panel_rules.specs.Answers.{answers}
use Rattle.panel_rules.specs.Counts.{taken_by_hold}
use Rattle.panel_rules.specs.Zones.{held_answers, panel_of_zone}
use Rattle.panel_rules.proofs.SiteLayout.{IsLaidOut, PointLies}
use Rattle.panel_rules.specs.Due.{SignalsAt}
use Rattle.panel_rules.proofs.Bools.{both, not_true}
use Rattle.panel_rules.proofs.Places.{get_take}
use Rattle.panel_rules.proofs.Turns.{turn_lag, run_tail, owed_turn}
use Rattle.panel_rules.proofs.Lags.{hold_has}
use Rattle.panel_rules.proofs.Rounds.{asking}
use Rattle.panel_rules.proofs.AnswersTell.{Tells, told_by, turn_in, polled, eq_true}

-- an answer that counts, of a point, stamped within a span whose last tick isn't included
pub record Counts (site : Site) (kept : Retained) (done : List Done) (xs : List Answer) (point first last : ℕ) : Type 0 where
  pub place : ℕ
  pub answer : Answer
  pub is : slice_get xs place ≡ Some answer
  pub point_is : answer.point ≡ point
  pub from : first ≤ answer.stamp.0
  pub by : answer.stamp.0 < last
  pub counts : is_counted site kept done answer ≡ true

-- an answer that tells a signal counts
pub signal_counts : (site : Site) (kept : Retained) (done : List Done) (panel : ℕ) (moments : List Moment) (a : Answer) → Tells site panel moments a
    → SignalsAt site kept done moments a.point a.stamp.0 → is_counted site kept done a ≡ true
signal_counts site kept done panel moments a tells s =
    both _ _
    (ap is_alarm (tells.heard ∙ ap (λ r. heard_of (state_of a.point (up_to a.stamp.0 moments)) r) s.reached ∙ ap (λ r. heard_of r true) s.alarm))
    (not_true _ s.free)

-- the point lies at a panel
pub record IsAtPanel (site : Site) (panel point : ℕ) : Type 0 where
  pub plan : Point
  pub is : slice_get site.points point ≡ Some plan
  pub lies : PointLies site point plan
  pub of_panel : plan.panel ≡ panel

of_its_zone : (site : Site) (zone panel point : ℕ) (o : Option Point) → IsLaidOut site → slice_get site.points point ≡ o → lies_in zone o ≡ true
    → panel_of_zone site zone ≡ panel → IsAtPanel site panel point
of_its_zone site zone panel point None laid e h at = cc
of_its_zone site zone panel point (Some plan) laid e h at =
    let lies = laid.points point plan e in
    record { plan = plan; is = e; lies = lies; of_panel = sym lies.zone ∙ ap (λ z. panel_of_zone site z) (eqb-true plan.zone zone h) ∙ at }

-- a point is at the panel of its zone
pub at_panel : (site : Site) (zone panel point : ℕ) → IsLaidOut site → is_of site zone point ≡ true → panel_of_zone site zone ≡ panel
    → IsAtPanel site panel point
at_panel site zone panel point laid h at = of_its_zone site zone panel point (slice_get site.points point) laid refl h at

-- a partner that passes a test, and its panel
pub record Partner (site : Site) (zone : ℕ) (test : ℕ → Bool) : Type 0 where
  pub other : ℕ
  pub passes : test other ≡ true
  pub same_panel : panel_of_zone site other ≡ panel_of_zone site zone

partner_found : (site : Site) (zone : ℕ) (test : ℕ → Bool) (o : Option Zone) → IsLaidOut site → slice_get site.zones zone ≡ o
    → on_zone test (partner_of o) ≡ true → Partner site zone test
partner_found site zone test None laid e h = cc
partner_found site zone test (Some plan) laid e h = go plan.partner refl h
  where
    go : (p : Option ℕ) → plan.partner ≡ p → on_zone test p ≡ true → Partner site zone test
    go None q h = cc
    go (Some other) q h = record { other = other; passes = h; same_panel = laid.partners zone other plan e q ∙ sym (ap (λ o. panel o) e) }
      where
        panel : Option Zone → ℕ
        panel None = 0
        panel (Some z) = z.panel

pub partner_at : (site : Site) (zone : ℕ) (test : ℕ → Bool) → IsLaidOut site → on_partner site zone test ≡ true → Partner site zone test
partner_at site zone test laid h = partner_found site zone test (slice_get site.zones zone) laid refl h

module _ (site : Site) (kept : Retained) (done : List Done) (moments past : List Moment) (panel : ℕ) (run : IsRun site.panels moments) (before :
    IsPast past moments) (p : IsPanel site.panels panel) where
  -- an asking in which the point signals, so old that Hold has its answer
  pub asking_counts : (point : ℕ) (plan : Point) (tick : ℕ) → PointLies site point plan → plan.panel ≡ panel → 1 ≤ tick
      → is_asked site.format plan.address tick ≡ true → tick + 2 ≤ latest_turn panel Hold past → SignalsAt site kept done moments point tick
      → Counts site kept done (held_answers site panel past) point tick (tick + 1)
  asking_counts point plan tick lies of_panel one asks late signal =
      let run' = run_tail site.panels past moments before run in
      let lag = turn_lag site.panels panel Hold past p tt run' in
      let turn = turn_in site.panels panel Poll past tick p tt run' one (owed_by (has_turned panel Poll past) (omega (arith, late, lag))) in
      let found = polled site site.panels panel past point plan tick lies of_panel turn asks in
      let tells = told_by site site.panels panel moments past found.place found.answer run before found.is in
      let has = hold_has site site.panels panel past found.place found.answer p run' found.is (omega (arith, found.stamp_is, late)) in
      let same : SignalsAt site kept done moments found.answer.point found.answer.stamp.0 =
      subst (λ q. SignalsAt site kept done moments q found.answer.stamp.0) (sym found.point_is)
      (subst (λ t. SignalsAt site kept done moments point t) (sym found.stamp_is) signal) in
      record {
        place = found.place;
        answer = found.answer;
        is = get_take (taken_by_hold site panel past) (answers site panel past) found.place found.answer has found.is;
        point_is = found.point_is;
        from = omega (arith, found.stamp_is);
        by = omega (arith, found.stamp_is);
        counts = signal_counts site kept done panel moments found.answer tells same;
      }
    where
      owed_by : (b : Bool) → tick + 2 ≤ tick_of past → tick + owed_turn b ≤ tick_of past
      owed_by true l = omega (arith, l)
      owed_by false l = omega (arith, l)

  -- a point that signals for a round is counted in it
  pub round_counts : (point first : ℕ) → IsLaidOut site → IsAtPanel site panel point → 1 ≤ first
      → first + round_of site.format + 1 ≤ latest_turn panel Hold past
      → ((tick : ℕ) → first ≤ tick → tick < first + round_of site.format → SignalsAt site kept done moments point tick)
      → Counts site kept done (held_answers site panel past) point first (first + round_of site.format)
  round_counts point first laid at one late signals =
      let lies = at.lies in
      let x = asking site.format ((at.plan.address - 1) / 8) first laid.format (omega (arith, lies.address.0, lies.address.1)) in
      let c = asking_counts point at.plan x.tick lies at.of_panel (omega (arith, one, x.from)) (eq_true _ _ x.asks) (omega (arith, x.by, late))
      (signals x.tick x.from (omega (arith, x.by))) in
      record {
        place = c.place;
        answer = c.answer;
        is = c.is;
        point_is = c.point_is;
        from = omega (arith, c.from, x.from);
        by = omega (arith, c.by, x.by);
        counts = c.counts;
      }
