-- What a signal that has ended keeps when ticks and operations come that change nothing of it.
use Rattle.std.proofs.Common.{◌≡◌, ℕ, ◌+◌, ◌≤◌, ◌<◌, List, true, subst, arith}
use Rattle.site_types.specs.declared.point_state.PointState.TheVariants.{Alarm}
use Rattle.site_types.specs.declared.retained.Retained.{Retained}
use Rattle.site_types.specs.declared.site.Site.{Site}
use Rattle.site_types.specs.Done.{Done}
use Rattle.site_types.specs.Profile.{round_of}
use Rattle.panel_rules.specs.Moments.{Moment, up_to}
use Rattle.panel_rules.specs.States.{state_of}
use Rattle.panel_rules.specs.Due.{CallPointSignals, DetectorSignals, DetectorsSignal, IsHeld, NoFloor, PairSignals, PointSignals, SecondSignals, SignalsAt, TwoHeld, reached_at}
use Rattle.zone_signals.specs.Ended.{RoundSignals, by_one, by_pair, by_two}

module _ (site : Site) (kept : Retained) (done : List Done) (one other : List Moment) (bound : ℕ) (same : (tick : ℕ) → tick < bound
    → up_to tick one ≡ up_to tick other) where
  signals_on : (point tick : ℕ) → tick < bound → SignalsAt site kept done one point tick → SignalsAt site kept done other point tick
  signals_on point tick less signals = record {
    alarm = subst (λ m. state_of point m ≡ Alarm) (same tick less) signals.alarm;
    reached = subst (λ m. reached_at site point m ≡ true) (same tick less) signals.reached;
    free = signals.free;
  }

  held_on : (point first : ℕ) → first + round_of site.format ≤ bound → IsHeld site kept done one point first → IsHeld site kept done other point first
  held_on point first by held tick low high = signals_on point tick (omega (arith, high, by)) (held tick low high)

  two_on : (p q first second : ℕ) → second + round_of site.format ≤ bound → TwoHeld site kept done one p q first second
      → TwoHeld site kept done other p q first second
  two_on p q first second by two =
      let follows = two.follows in
      record {
        begins = two.begins;
        follows = two.follows;
        differ = two.differ;
        first_held = held_on p first (omega (arith, by, follows)) two.first_held;
        second_held = held_on q second by two.second_held;
      }

  module _ (zone last end : ℕ) (floors : (first : ℕ) → 1 ≤ first → NoFloor site done zone first last → NoFloor site done zone first end) where
    pub call_on : (settled : ℕ) → settled + round_of site.format ≤ bound → CallPointSignals site kept done one zone last settled
        → CallPointSignals site kept done other zone end settled
    call_on settled by signal = record {
      point = signal.point;
      begins = signal.begins;
      calls = signal.calls;
      held = held_on signal.point settled by signal.held;
      floor = floors settled signal.begins signal.floor;
    }

    point_on : (settled : ℕ) → settled + round_of site.format ≤ bound → PointSignals site kept done one zone last settled
        → PointSignals site kept done other zone end settled
    point_on settled by signal = record {
      point = signal.point;
      begins = signal.begins;
      rule = signal.rule;
      of_zone = signal.of_zone;
      held = held_on signal.point settled by signal.held;
      floor = floors settled signal.begins signal.floor;
    }

    detectors_on : (settled : ℕ) → settled + round_of site.format ≤ bound → DetectorsSignal site kept done one zone last settled
        → DetectorsSignal site kept done other zone end settled
    detectors_on settled by signal = record {
      first_point = signal.first_point;
      second_point = signal.second_point;
      first = signal.first;
      verify = signal.verify;
      within = signal.within;
      held = two_on signal.first_point signal.second_point signal.first settled by signal.held;
      rule = signal.rule;
      near = signal.near;
      first_of_zone = signal.first_of_zone;
      second_of_zone = signal.second_of_zone;
      first_detects = signal.first_detects;
      second_detects = signal.second_detects;
      floor = floors signal.first signal.held.begins signal.floor;
    }

    pair_on : (settled : ℕ) → settled + round_of site.format ≤ bound → PairSignals site kept done one zone last settled
        → PairSignals site kept done other zone end settled
    pair_on settled by signal = record {
      first_point = signal.first_point;
      second_point = signal.second_point;
      first = signal.first;
      within = signal.within;
      held = two_on signal.first_point signal.second_point signal.first settled by signal.held;
      rule = signal.rule;
      near = signal.near;
      pairs = signal.pairs;
      first_detects = signal.first_detects;
      second_detects = signal.second_detects;
      floors = signal.floors;
      cancellings = signal.cancellings;
      floor = floors signal.first signal.held.begins signal.floor;
    }

    pub round_on : (settled : ℕ) → settled + round_of site.format ≤ bound → RoundSignals site kept done one zone last settled
        → RoundSignals site kept done other zone end settled
    round_on settled by (by_one signal) = by_one (point_on settled by signal)
    round_on settled by (by_two signal) = by_two (detectors_on settled by signal)
    round_on settled by (by_pair signal) = by_pair (pair_on settled by signal)

    pub second_on : (settled : ℕ) → settled + round_of site.format ≤ bound → SecondSignals site kept done one zone last settled
        → SecondSignals site kept done other zone end settled
    second_on settled by signal = record {
      first_point = signal.first_point;
      second_point = signal.second_point;
      first = signal.first;
      held = two_on signal.first_point signal.second_point signal.first settled by signal.held;
      rule = signal.rule;
      pairs = signal.pairs;
      floors = signal.floors;
      floor = floors signal.first signal.held.begins signal.floor;
    }

    pub detector_on : (settled : ℕ) → settled + round_of site.format ≤ bound + 1 → DetectorSignals site kept done one zone last settled
        → DetectorSignals site kept done other zone end settled
    detector_on settled by signal =
        let settles = signal.settles in
        let begins = signal.begins in
        record {
          point = signal.point;
          first = signal.first;
          verify = signal.verify;
          within = signal.within;
          begins = signal.begins;
          rule = signal.rule;
          of_zone = signal.of_zone;
          detects = signal.detects;
          signals = λ tick low high. signals_on signal.point tick (omega (arith, high, by, settles)) (signal.signals tick low high);
          floor = floors signal.first signal.begins signal.floor;
          settles = signal.settles;
        }
