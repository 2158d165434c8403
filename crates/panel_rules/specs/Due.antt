-- Which zones are due: a signal has lasted so long that the zone is to be shown. Only what befell and which
-- operations were done decide, never the order of turns.
use Rattle.std.specs.Prelude.{◌≡◌, ℕ, ◌+◌, ◌≤◌, ◌<◌, ◌≢◌, ◌⊎◌, ◌&&◌, ◌||◌, not, nat_le, nat_lt, Bool, true, false}
use Rattle.std.specs.Prelude.{List, Some, slice_get}
use Rattle.std.specs.List.{list_all}
use Rattle.site_types.specs.declared.point_state.PointState.TheVariants.{Alarm}
use Rattle.site_types.specs.declared.rule.Rule.TheVariants.{Plain, A, B, C}
use Rattle.site_types.specs.declared.retained.Retained.{Retained}
use Rattle.site_types.specs.declared.site.Site.{Site}
use Rattle.site_types.specs.Done.{Done, is_blocked, moves_floor, cancels}
use Rattle.site_types.specs.Profile.{round_of, signal_of, settled_of, spread_of, verify_of}
use Rattle.coincidence_rules.specs.Places.{is_of, is_detector, rule_of, pairs_up}
use Rattle.coincidence_rules.specs.Confirmed.{is_by_call_point}
use Rattle.panel_rules.specs.Moments.{Moment, tick_of, up_to}
use Rattle.panel_rules.specs.States.{state_of, piece_of}
use Rattle.panel_rules.specs.Reached.{is_point_reached}
use Rattle.panel_rules.specs.Ring.{AreJoined}
use Rattle.panel_rules.specs.Zones.{panel_of_zone}

-- no operation of a kind was done in the ticks from the first on, and before the last
abbrev pub none_in : (Done → Bool) → ℕ → ℕ → List Done → Bool
none_in test first last done =
    list_all (λ d. not (test d && (nat_le first d.tick && nat_lt d.tick last))) done

-- no floor of a zone
abbrev pub NoFloor : Site → List Done → ℕ → ℕ → ℕ → Type 0
NoFloor site done zone first last = none_in (moves_floor site zone) first last done ≡ true

abbrev pub NoCancelling : List Done → ℕ → ℕ → ℕ → Type 0
NoCancelling done zone first last = none_in (cancels zone) first last done ≡ true

abbrev pub reached_at : Site → ℕ → List Moment → Bool
reached_at site point before =
    is_point_reached site (slice_get site.points point) (λ panel line piece. piece_of panel line piece before)

module _ (site : Site) (kept : Retained) (done : List Done) (moments : List Moment) where
  -- at a tick a point is in alarm, reached and not blocked
  pub record SignalsAt (point tick : ℕ) : Type 0 where
    pub alarm : state_of point (up_to tick moments) ≡ Alarm
    pub reached : reached_at site point (up_to tick moments) ≡ true
    pub free : is_blocked site kept done point tick ≡ false

  -- in each tick of a span, the last one not included
  abbrev pub SignalsThrough : ℕ → ℕ → ℕ → Type 0
  SignalsThrough point first last = (tick : ℕ) → first ≤ tick → tick < last → SignalsAt point tick

  -- for a whole round from a tick on
  abbrev pub IsHeld : ℕ → ℕ → Type 0
  IsHeld point first = SignalsThrough point first (first + round_of site.format)

  -- a manual call point of the zone is held, and the zone has no floor since
  pub record CallPointSignals (zone last first : ℕ) : Type 0 where
    pub point : ℕ
    pub begins : 1 ≤ first
    pub calls : is_by_call_point site zone point ≡ true
    pub held : IsHeld point first
    pub floor : NoFloor site done zone first last

  -- a point of a zone of type none or C is held
  pub record PointSignals (zone last first : ℕ) : Type 0 where
    pub point : ℕ
    pub begins : 1 ≤ first
    pub rule : (rule_of (slice_get site.zones zone) ≡ Some Plain)
        ⊎ (rule_of (slice_get site.zones zone) ≡ Some C)
    pub of_zone : is_of site zone point ≡ true
    pub held : IsHeld point first
    pub floor : NoFloor site done zone first last

  -- one detector of a zone of type A signals for its time and two rounds; the signal counts from the time and
  -- the profile's addition after its start
  pub record DetectorSignals (zone last settled : ℕ) : Type 0 where
    pub point : ℕ
    pub first : ℕ
    pub verify : ℕ
    pub within : ℕ
    pub begins : 1 ≤ first
    pub rule : rule_of (slice_get site.zones zone) ≡ Some (A verify within)
    pub of_zone : is_of site zone point ≡ true
    pub detects : is_detector site point ≡ true
    pub signals : (tick : ℕ) → first ≤ tick
        → tick + 2 ≤ first + verify + (round_of site.format + round_of site.format) → SignalsAt point tick
    pub floor : NoFloor site done zone first last
    pub settles : settled ≡ first + verify + verify_of site.format

  -- two different points are each held for a whole round, the second not before the first
  pub record TwoHeld (first_point second_point first second : ℕ) : Type 0 where
    pub begins : 1 ≤ first
    pub follows : first ≤ second
    pub differ : first_point ≢ second_point
    pub first_held : IsHeld first_point first
    pub second_held : IsHeld second_point second

  -- two detectors of a zone of type A are held, so close that the end of the second's round lies within the
  -- zone's time of the first's beginning
  pub record DetectorsSignal (zone last second : ℕ) : Type 0 where
    pub first_point : ℕ
    pub second_point : ℕ
    pub first : ℕ
    pub verify : ℕ
    pub within : ℕ
    pub held : TwoHeld first_point second_point first second
    pub rule : rule_of (slice_get site.zones zone) ≡ Some (A verify within)
    pub near : second + round_of site.format ≤ first + within + 1
    pub first_of_zone : is_of site zone first_point ≡ true
    pub second_of_zone : is_of site zone second_point ≡ true
    pub first_detects : is_detector site first_point ≡ true
    pub second_detects : is_detector site second_point ≡ true
    pub floor : NoFloor site done zone first last

  -- two detectors for a zone of type B, held as close as that, both of it or one of it and one of its
  -- partner, whose zones have neither floor nor cancelling until the second has been held
  pub record PairSignals (zone last second : ℕ) : Type 0 where
    pub first_point : ℕ
    pub second_point : ℕ
    pub first : ℕ
    pub within : ℕ
    pub held : TwoHeld first_point second_point first second
    pub rule : rule_of (slice_get site.zones zone) ≡ Some (B within)
    pub near : second + round_of site.format ≤ first + within + 1
    pub pairs : pairs_up site zone first_point (λ other. is_of site other second_point) ≡ true
    pub first_detects : is_detector site first_point ≡ true
    pub second_detects : is_detector site second_point ≡ true
    pub floors : (other : ℕ) → (is_of site other first_point || is_of site other second_point) ≡ true
        → NoFloor site done other first (second + round_of site.format)
    pub cancellings : (other : ℕ) → (is_of site other first_point || is_of site other second_point) ≡ true
        → NoCancelling done other first (second + round_of site.format)
    pub floor : NoFloor site done zone first last

  -- two points for a zone of type C, both of it or one of it and one of its partner
  pub record SecondSignals (zone last second : ℕ) : Type 0 where
    pub first_point : ℕ
    pub second_point : ℕ
    pub first : ℕ
    pub held : TwoHeld first_point second_point first second
    pub rule : rule_of (slice_get site.zones zone) ≡ Some C
    pub pairs : pairs_up site zone first_point (λ other. is_of site other second_point) ≡ true
    pub floors : (other : ℕ) → (is_of site other first_point || is_of site other second_point) ≡ true
        → NoFloor site done other first (second + round_of site.format)
    pub floor : NoFloor site done zone first last

  -- one detector of a zone of type B was held so long ago that the zone is due to tell it, and its time has
  -- not ended
  pub record LoneSignals (zone last : ℕ) : Type 0 where
    pub point : ℕ
    pub first : ℕ
    pub within : ℕ
    pub begins : 1 ≤ first
    pub rule : rule_of (slice_get site.zones zone) ≡ Some (B within)
    pub of_zone : is_of site zone point ≡ true
    pub detects : is_detector site point ≡ true
    pub held : IsHeld point first
    pub floor : NoFloor site done zone first last
    pub cancelling : NoCancelling done zone first last
    pub late : first + signal_of site.format ≤ last
    pub window : last ≤ first + within

  -- the zone has a signal that counts from a tick on, with no floor before the last tick
  pub data Signals (zone last settled : ℕ) : Type 0 where
    by_call_point : CallPointSignals zone last settled → Signals zone last settled
    by_one : PointSignals zone last settled → Signals zone last settled
    by_itself : DetectorSignals zone last settled → Signals zone last settled
    by_two : DetectorsSignal zone last settled → Signals zone last settled
    by_pair : PairSignals zone last settled → Signals zone last settled

  -- the zone has a signal for outputs: for type C only a manual call point or a second point is one
  pub data SignalsOut (zone last settled : ℕ) : Type 0 where
    by_signal : (rule_of (slice_get site.zones zone) ≢ Some C) → Signals zone last settled
        → SignalsOut zone last settled
    by_hand : CallPointSignals zone last settled → SignalsOut zone last settled
    by_second : SecondSignals zone last settled → SignalsOut zone last settled

  -- a signal that counts from a tick on is due: on the zone's own panel after the signal's ticks, on another
  -- one after it was joined for long enough
  pub data IsDueAfter (zone panel settled : ℕ) : Type 0 where
    own : panel ≡ panel_of_zone site zone → settled + signal_of site.format ≤ tick_of moments
        → IsDueAfter zone panel settled
    by_way : (first last : ℕ) → settled + settled_of site.format ≤ first
        → first + spread_of site.format ≤ tick_of moments → last + 1 ≡ first + spread_of site.format →
        AreJoined site.panels moments (panel_of_zone site zone) panel first last
        → IsDueAfter zone panel settled

  -- the zone is due at a panel: to be shown, released, and by hand
  pub record IsDue (zone panel : ℕ) : Type 0 where
    pub settled : ℕ
    pub signal : Signals zone (tick_of moments) settled
    pub late : IsDueAfter zone panel settled

  pub record IsDueOut (zone panel : ℕ) : Type 0 where
    pub settled : ℕ
    pub signal : SignalsOut zone (tick_of moments) settled
    pub late : IsDueAfter zone panel settled

  pub record IsDueByHand (zone panel : ℕ) : Type 0 where
    pub settled : ℕ
    pub signal : CallPointSignals zone (tick_of moments) settled
    pub late : IsDueAfter zone panel settled
