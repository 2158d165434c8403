-- Spans of ticks in which a point signals: by the test, and by what befell until then or until later.
use Rattle.std.proofs.Common.{◌≡◌, ℕ, ◌+◌, ◌≤◌, ◌<◌, true, List, [], ◌∷◌, ◌++◌, length, arith, length-append}
use Rattle.site_types.specs.declared.retained.Retained.{Retained}
use Rattle.site_types.specs.declared.site.Site.{Site}
use Rattle.site_types.specs.Done.{Done}
use Rattle.site_types.specs.Profile.{round_of}
use Rattle.panel_rules.specs.Due.{IsHeld, SignalsAt, SignalsThrough}
use Rattle.panel_rules.specs.Moments.{Moment, TickBlock, moments}
use Rattle.point_runs.specs.Runs.{HoldsForRound}
use Rattle.signal_points.specs.Signalling.{signals_at}
use Rattle.signal_points.proofs.Tests.{earlier_stay, signals_by_test, test_of_signals}

module _ (site : Site) (kept : Retained) (done : List Done) (moments : List Moment) (point : ℕ) where
  pub through_by_test : (first last : ℕ) → ((tick : ℕ) → first ≤ tick → tick < last → signals_at site kept done moments point tick ≡ true)
      → SignalsThrough site kept done moments point first last
  through_by_test first last holds tick low high = signals_by_test site kept done moments point tick (holds tick low high)

  pub held_by_test : (first : ℕ) → HoldsForRound (signals_at site kept done moments point) (round_of site.format) first
      → IsHeld site kept done moments point first
  held_by_test first holds tick low high = signals_by_test site kept done moments point tick (holds tick low high)

  pub test_of_held : (first : ℕ) → IsHeld site kept done moments point first
      → HoldsForRound (signals_at site kept done moments point) (round_of site.format) first
  test_of_held first held tick low high = test_of_signals site kept done moments point tick (held tick low high)

-- ticks that came later change nothing of an earlier one
module _ (site : Site) (kept : Retained) (done : List Done) (point tick : ℕ) (ticks : List TickBlock) (by : tick ≤ length ticks) where
  pub signals_then : (late : List TickBlock) → SignalsAt site kept done (moments (late ++ ticks)) point tick → SignalsAt site kept done (moments ticks) point tick
  signals_then [] signals = signals
  signals_then (next ∷ late) signals =
      signals_then late
      ((earlier_stay site kept done point tick (late ++ ticks) next (let l = length-append late ticks in omega (arith, l, by))).1 signals)

  pub signals_since : (late : List TickBlock) → SignalsAt site kept done (moments ticks) point tick → SignalsAt site kept done (moments (late ++ ticks)) point tick
  signals_since [] signals = signals
  signals_since (next ∷ late) signals =
      (earlier_stay site kept done point tick (late ++ ticks) next (let l = length-append late ticks in omega (arith, l, by))).0 (signals_since late signals)

module _ (site : Site) (kept : Retained) (done : List Done) (point : ℕ) (ticks late : List TickBlock) (first last : ℕ) (by : last ≤ length ticks + 1) where
  pub through_then : SignalsThrough site kept done (moments (late ++ ticks)) point first last → SignalsThrough site kept done (moments ticks) point first last
  through_then signals tick low high = signals_then site kept done point tick ticks (omega (arith, high, by)) late (signals tick low high)

  pub through_since : SignalsThrough site kept done (moments ticks) point first last → SignalsThrough site kept done (moments (late ++ ticks)) point first last
  through_since signals tick low high = signals_since site kept done point tick ticks (omega (arith, high, by)) late (signals tick low high)
