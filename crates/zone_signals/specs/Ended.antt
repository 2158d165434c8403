-- Signals that have ended: each of their ticks lies before a tick, and no floor came before it.
use Rattle.std.specs.Prelude.{◌≢◌, ℕ, ◌+◌, ◌≤◌, List, Some, slice_get}
use Rattle.site_types.specs.declared.retained.Retained.{Retained}
use Rattle.site_types.specs.declared.rule.Rule.TheVariants.{C}
use Rattle.site_types.specs.declared.site.Site.{Site}
use Rattle.site_types.specs.Done.{Done}
use Rattle.site_types.specs.Profile.{round_of}
use Rattle.coincidence_rules.specs.Places.{rule_of}
use Rattle.panel_rules.specs.Moments.{Moment}
use Rattle.panel_rules.specs.Due.{CallPointSignals, PointSignals, DetectorSignals, DetectorsSignal, PairSignals}
use Rattle.panel_rules.specs.Due.{SecondSignals}

module _ (site : Site) (kept : Retained) (done : List Done) (moments : List Moment) where
  -- a signal that counts from the beginning of a round: of one point, of two detectors, of a pair
  pub data RoundSignals (zone last settled : ℕ) : Type 0 where
    by_one : PointSignals site kept done moments zone last settled → RoundSignals zone last settled
    by_two : DetectorsSignal site kept done moments zone last settled → RoundSignals zone last settled
    by_pair : PairSignals site kept done moments zone last settled → RoundSignals zone last settled

  abbrev pub EndedCalls : ℕ → ℕ → ℕ → Type 0
  EndedCalls zone last settled =
      CallPointSignals site kept done moments zone last settled × (settled + round_of site.format ≤ last)

  abbrev pub EndedRounds : ℕ → ℕ → ℕ → Type 0
  EndedRounds zone last settled = RoundSignals zone last settled × (settled + round_of site.format ≤ last)

  -- one detector signals for a round less a tick after its signal counts
  abbrev pub EndedAlone : ℕ → ℕ → ℕ → Type 0
  EndedAlone zone last settled =
      DetectorSignals site kept done moments zone last settled
      × (settled + round_of site.format ≤ last + 1)

  abbrev pub EndedSeconds : ℕ → ℕ → ℕ → Type 0
  EndedSeconds zone last settled =
      SecondSignals site kept done moments zone last settled × (settled + round_of site.format ≤ last)

  -- the signals of a zone that have ended, and those for outputs
  pub data EndedSignals (zone last settled : ℕ) : Type 0 where
    call_ended : EndedCalls zone last settled → EndedSignals zone last settled
    round_ended : EndedRounds zone last settled → EndedSignals zone last settled
    alone_ended : EndedAlone zone last settled → EndedSignals zone last settled

  pub data EndedSignalsOut (zone last settled : ℕ) : Type 0 where
    signal_ended : (rule_of (slice_get site.zones zone) ≢ Some C) → EndedSignals zone last settled
        → EndedSignalsOut zone last settled
    hand_ended : EndedCalls zone last settled → EndedSignalsOut zone last settled
    second_ended : EndedSeconds zone last settled → EndedSignalsOut zone last settled
