-- The test for a point that signals, and the rules; what was before stays.
use Rattle.std.proofs.Common.{◌≡◌, ◌≤◌, ℕ, true, not, List, ◌∷◌, length, refl, sym, ap, subst}
use Rattle.site_types.specs.declared.point_state.PointState.{PointState}
use Rattle.site_types.specs.declared.point_state.PointState.TheVariants.{Quiet, Alarm, Gone}
use Rattle.site_types.specs.declared.retained.Retained.{Retained}
use Rattle.site_types.specs.declared.site.Site.{Site}
use Rattle.site_types.specs.Done.{Done, is_blocked}
use Rattle.panel_rules.specs.Due.{SignalsAt, reached_at}
use Rattle.panel_rules.specs.Moments.{Moment, TickBlock, moments, up_to}
use Rattle.panel_rules.specs.States.{state_of}
use Rattle.panel_rules.proofs.Bools.{both, not_false, not_true, parts}
use Rattle.run_text.proofs.TickTimes.{up_to_earlier}
use Rattle.field_states.specs.Sounding.{is_alarm_state, sounds_at}
use Rattle.signal_points.specs.Signalling.{signals_at}
use Rattle.signal_points.specs.Laws.{EarlierSignalsStay, SignalsAreTold}

is_alarm : (state : PointState) → is_alarm_state state ≡ true → state ≡ Alarm
is_alarm Alarm h = refl
is_alarm Quiet h = cc
is_alarm Gone h = cc

module _ (site : Site) (kept : Retained) (done : List Done) (moments : List Moment) (point tick : ℕ) where
  pub signals_by_test : signals_at site kept done moments point tick ≡ true → SignalsAt site kept done moments point tick
  signals_by_test h =
      let before = up_to tick moments in
      let all = parts (sounds_at site before point) (not (is_blocked site kept done point tick)) h in
      let sounds = parts (is_alarm_state (state_of point before)) (reached_at site point before) all.0 in
      record {
        alarm = is_alarm (state_of point before) sounds.0;
        reached = sounds.1;
        free = not_false (is_blocked site kept done point tick) all.1;
      }

  pub test_of_signals : SignalsAt site kept done moments point tick → signals_at site kept done moments point tick ≡ true
  test_of_signals signals =
      let before = up_to tick moments in
      both (sounds_at site before point) (not (is_blocked site kept done point tick))
      (both (is_alarm_state (state_of point before)) (reached_at site point before) (ap is_alarm_state signals.alarm) signals.reached)
      (not_true (is_blocked site kept done point tick) signals.free)

pub signals_told : SignalsAreTold
signals_told site kept done moments point tick =
    (signals_by_test site kept done moments point tick, test_of_signals site kept done moments point tick)

module _ (site : Site) (kept : Retained) (done : List Done) (point tick : ℕ) where
  -- what befell up to the tick decides
  same_past : (one other : List Moment) → up_to tick one ≡ up_to tick other → SignalsAt site kept done one point tick
      → SignalsAt site kept done other point tick
  same_past one other same signals = record {
    alarm = subst (λ m. state_of point m ≡ Alarm) same signals.alarm;
    reached = subst (λ m. reached_at site point m ≡ true) same signals.reached;
    free = signals.free;
  }

  pub earlier_stay : (ticks : List TickBlock) (next : TickBlock) → tick ≤ length ticks
      → (SignalsAt site kept done (moments ticks) point tick → SignalsAt site kept done (moments (next ∷ ticks)) point tick)
      × (SignalsAt site kept done (moments (next ∷ ticks)) point tick → SignalsAt site kept done (moments ticks) point tick)
  earlier_stay ticks next by =
      let same = up_to_earlier next ticks tick by in
      (same_past (moments ticks) (moments (next ∷ ticks)) (sym same), same_past (moments (next ∷ ticks)) (moments ticks) same)

pub earlier_signals : EarlierSignalsStay
earlier_signals site kept done ticks next point tick by = earlier_stay site kept done point tick ticks next by
