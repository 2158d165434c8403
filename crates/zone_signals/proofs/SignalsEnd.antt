-- The signals that end just now, by the points that are held.
use Rattle.std.proofs.Common.{◌≡◌, ◌≢◌, ◌⊎◌, ℕ, true, ◌+◌, ◌-◌, ◌≤◌, ◌<◌, max, List, Some, None, slice_get, refl, sym, ◌∙◌, subst, arith}
use Rattle.site_types.specs.declared.retained.Retained.{Retained}
use Rattle.site_types.specs.declared.rule.Rule.TheVariants.{Plain, A, C}
use Rattle.site_types.specs.declared.site.Site.{Site}
use Rattle.site_types.specs.Done.{Done, floor_before}
use Rattle.site_types.specs.Profile.{round_of}
use Rattle.coincidence_rules.specs.Places.{rule_of}
use Rattle.panel_rules.specs.Moments.{Moment}
use Rattle.panel_rules.specs.Due.{CallPointSignals, DetectorSignals, DetectorsSignal, IsHeld, PointSignals, TwoHeld}
use Rattle.panel_rules.proofs.Bools.{both, parts}
use Rattle.zone_signals.specs.declared.kind.Kind.{Kind}
use Rattle.zone_signals.specs.declared.kind.Kind.TheVariants.{Any, Detector, CallPoint}
use Rattle.zone_signals.specs.Kinds.{fits_kind}
use Rattle.zone_signals.specs.Rounds.{HasDetectorThrough, HasHeldAfter, HasTwoHeldAfter, HeldAfter}
use Rattle.zone_signals.proofs.NoFloors.{floor_clear, floor_past}

module _ (site : Site) (kept : Retained) (done : List Done) (moments : List Moment) (zone now start : ℕ) (some : 1 ≤ round_of site.format) (is : start
    ≡ now - round_of site.format) where
  -- a round that begins then, and has ended, is one that ends now
  pub begun_then : (first : ℕ) → 1 ≤ start → start - 1 < first → first + round_of site.format ≤ now → first ≡ now - round_of site.format
  begun_then first one late ended = omega (arith, is, one, late, ended)

  -- two points are held, the second one for the round that ends now
  pub held_both : (kind : Kind) (after one other first second : ℕ) → 1 ≤ start → one ≢ other
      → HeldAfter site kept done moments kind after now one first → HeldAfter site kept done moments kind (start - 1) now other second
      → TwoHeld site kept done moments one other first (now - round_of site.format)
  held_both kind after one other first second begun differ early late =
      let since = early.since in
      let ended = early.ended in
      record {
        begins = omega (arith, since);
        follows = omega (arith, ended);
        differ = differ;
        first_held = early.held;
        second_held = subst (IsHeld site kept done moments other) (begun_then second begun late.since late.ended) late.held;
      }

  -- where two are, so is the second one
  pub held_now : (kind : Kind) (one other first : ℕ) → TwoHeld site kept done moments one other first (now - round_of site.format)
      → fits_kind kind site other ≡ true → HeldAfter site kept done moments kind (start - 1) now other (now - round_of site.format)
  held_now kind one other first two fits =
      let begins = two.begins in
      let follows = two.follows in
      record { fits = fits; since = omega (arith, is, begins, follows); held = two.second_held; ended = omega (arith, begins, follows) }

  module _ (below : floor_before site zone now done < start) where
    pub call_of : HasHeldAfter site kept done moments CallPoint None zone (start - 1) now
        → CallPointSignals site kept done moments zone now (now - round_of site.format)
    call_of held =
        let then' = begun_then held.is.0 (omega (arith, below)) held.is.1.since held.is.1.ended in
        record {
          point = held.point;
          begins = omega (arith, is, below);
          calls = both _ _ held.of_zone held.is.1.fits;
          held = subst (IsHeld site kept done moments held.point) then' held.is.1.held;
          floor = floor_clear site done zone (now - round_of site.format) now (omega (arith, is, below));
        }

    pub point_of : (rule_of (slice_get site.zones zone) ≡ Some Plain) ⊎ (rule_of (slice_get site.zones zone) ≡ Some C)
        → HasHeldAfter site kept done moments Any None zone (start - 1) now
        → PointSignals site kept done moments zone now (now - round_of site.format)
    point_of rule held =
        let then' = begun_then held.is.0 (omega (arith, below)) held.is.1.since held.is.1.ended in
        record {
          point = held.point;
          begins = omega (arith, is, below);
          rule = rule;
          of_zone = held.of_zone;
          held = subst (IsHeld site kept done moments held.point) then' held.is.1.held;
          floor = floor_clear site done zone (now - round_of site.format) now (omega (arith, is, below));
        }

  pub call_below : CallPointSignals site kept done moments zone now (now - round_of site.format) → floor_before site zone now done < start
  call_below signal =
      let past = floor_past site done zone (now - round_of site.format) now now signal.begins (omega arith) signal.floor in
      omega (arith, is, past)

  pub of_call : CallPointSignals site kept done moments zone now (now - round_of site.format)
      → HasHeldAfter site kept done moments CallPoint None zone (start - 1) now
  of_call signal =
      let begins = signal.begins in
      let p = parts _ _ signal.calls in
      record {
        point = signal.point;
        of_zone = p.0;
        other = refl;
        is = (now - round_of site.format, record { fits = p.1; since = omega (arith, is, begins); held = signal.held; ended = omega (arith, begins) });
      }

  pub point_below : PointSignals site kept done moments zone now (now - round_of site.format) → floor_before site zone now done < start
  point_below signal =
      let past = floor_past site done zone (now - round_of site.format) now now signal.begins (omega arith) signal.floor in
      omega (arith, is, past)

  pub of_point : PointSignals site kept done moments zone now (now - round_of site.format)
      → HasHeldAfter site kept done moments Any None zone (start - 1) now
  of_point signal =
      let begins = signal.begins in
      record {
        point = signal.point;
        of_zone = signal.of_zone;
        other = refl;
        is = (now - round_of site.format, record { fits = refl; since = omega (arith, is, begins); held = signal.held; ended = omega (arith, begins) });
      }

  -- two detectors, the first held after the floor and not too early
  pub detectors_of : (verify within after : ℕ) → 1 ≤ start → after ≡ max (floor_before site zone now done) (now - (within + 2))
      → rule_of (slice_get site.zones zone) ≡ Some (A verify within)
      → HasTwoHeldAfter site kept done moments Detector zone after (start - 1) now
      → DetectorsSignal site kept done moments zone now (now - round_of site.format)
  detectors_of verify within after one bar rule two =
      let since = two.one.since in
      record {
        first_point = two.first_point;
        second_point = two.second_point;
        first = two.first;
        verify = verify;
        within = within;
        held = held_both Detector after two.first_point two.second_point two.first two.second one two.differ two.one two.two;
        rule = rule;
        near = omega (arith, since, bar, one, is);
        first_of_zone = two.first_of_zone;
        second_of_zone = two.second_of_zone;
        first_detects = two.one.fits;
        second_detects = two.two.fits;
        floor = floor_clear site done zone two.first now (omega (arith, since, bar));
      }

  pub of_detectors : (verify within after : ℕ) → after ≡ max (floor_before site zone now done) (now - (within + 2))
      → rule_of (slice_get site.zones zone) ≡ Some (A verify within)
      → DetectorsSignal site kept done moments zone now (now - round_of site.format)
      → HasTwoHeldAfter site kept done moments Detector zone after (start - 1) now
  of_detectors verify within after bar rule signal =
      let begins = signal.held.begins in
      let follows = signal.held.follows in
      let same : signal.within ≡ within = (let e = sym signal.rule ∙ rule in cc) in
      let near = signal.near in
      let past = floor_past site done zone signal.first now now begins (omega arith) signal.floor in
      record {
        first_point = signal.first_point;
        second_point = signal.second_point;
        first = signal.first;
        second = now - round_of site.format;
        differ = signal.held.differ;
        first_of_zone = signal.first_of_zone;
        second_of_zone = signal.second_of_zone;
        one = record {
          fits = signal.first_detects;
          since = omega (arith, bar, past, near, same, begins, follows);
          held = signal.held.first_held;
          ended = omega (arith, begins, follows);
        };
        two = held_now Detector signal.first_point signal.second_point signal.first signal.held signal.second_detects;
      }

-- one detector for its time and two rounds
module _ (site : Site) (kept : Retained) (done : List Done) (moments : List Moment) (zone now first verify within : ℕ) (some : 1 ≤ round_of site.format) (is :
    first ≡ now - (verify + (round_of site.format + round_of site.format) - 1)) (rule : rule_of (slice_get site.zones zone) ≡ Some (A verify within)) where
  pub detector_of : floor_before site zone now done < first → HasDetectorThrough site kept done moments zone first now
      → DetectorSignals site kept done moments zone now (now - round_of site.format + 1)
  detector_of below has = record {
    point = has.point;
    first = first;
    verify = verify;
    within = within;
    begins = omega (arith, below);
    rule = rule;
    of_zone = has.of_zone;
    detects = has.is.detects;
    signals = λ tick low high. has.is.through tick low (omega (arith, high, is, below, some));
    floor = floor_clear site done zone first now below;
    settles = omega (arith, is, below, some);
  }

  module _ (signal : DetectorSignals site kept done moments zone now (now - round_of site.format + 1)) where
    same_verify : signal.verify ≡ verify
    same_verify = let e = sym signal.rule ∙ rule in cc

    same_first : signal.first ≡ first
    same_first =
        let settles = signal.settles in
        let begins = signal.begins in
        omega (arith, settles, begins, is, same_verify, some)

    pub detector_below : floor_before site zone now done < first
    detector_below =
        let past = floor_past site done zone signal.first now now signal.begins (omega arith) signal.floor in
        omega (arith, past, same_first)

    pub of_detector : HasDetectorThrough site kept done moments zone first now
    of_detector = record {
      point = signal.point;
      of_zone = signal.of_zone;
      is = record {
        detects = signal.detects;
        through = λ tick low high.
            (let begins = signal.begins in
            signal.signals tick (omega (arith, low, same_first)) (omega (arith, high, is, same_first, same_verify, begins, some)));
      };
    }
