-- Rounds for which points are held, as far as the runs of ticks in which they signal tell.
use Rattle.std.specs.Prelude.{◌≡◌, ◌≢◌, ◌↔◌, ℕ, ◌+◌, ◌-◌, ◌≤◌, ◌<◌, ◌||◌, Bool, true, List, Option, Some}
use Rattle.std.specs.Prelude.{slice_get, length}
use Rattle.site_types.specs.declared.retained.Retained.{Retained}
use Rattle.site_types.specs.declared.site.Site.{Site}
use Rattle.site_types.specs.Done.{Done}
use Rattle.site_types.specs.Profile.{round_of}
use Rattle.coincidence_rules.specs.Places.{is_of, is_detector, pairs_up}
use Rattle.panel_rules.specs.Moments.{Moment}
use Rattle.panel_rules.specs.Due.{SignalsAt, IsHeld, SignalsThrough}
use Rattle.point_runs.specs.declared.point_run.PointRun.{PointRun}
use Rattle.point_runs.specs.Runs.{RunStands}
use Rattle.zone_signals.specs.declared.kind.Kind.{Kind}
use Rattle.zone_signals.specs.Kinds.{fits_kind, is_besides}

module _ (site : Site) (kept : Retained) (done : List Done) (moments : List Moment) where
  -- a test tells whether a point signals at a tick
  abbrev pub TellsSignals : (ℕ → ℕ → Bool) → Type 0
  TellsSignals signals = (point tick : ℕ) → (signals point tick ≡ true)
      ↔ SignalsAt site kept done moments point tick

  -- for each point of the site the run of the ticks, before this one, at which it signals
  pub record AreRuns (now : ℕ) (runs : List PointRun) : Type 0 where
    pub begun : 1 ≤ now
    pub some : 1 ≤ round_of site.format
    pub whole : length runs ≡ length site.points
    pub signals : ℕ → ℕ → Bool
    pub tells : TellsSignals signals
    pub each : (point : ℕ) (run : PointRun) → slice_get runs point ≡ Some run
        → RunStands (signals point) (round_of site.format) (now - 1) run

  -- of the rounds that have ended before a tick, the last one for which a point is held begins here; 0 where
  -- there is none
  pub record IsLastHeld (point now first : ℕ) : Type 0 where
    pub held : 1 ≤ first → IsHeld site kept done moments point first
    pub ended : 1 ≤ first → first + round_of site.format ≤ now
    pub latest : (other : ℕ) → 1 ≤ other → other + round_of site.format ≤ now
        → IsHeld site kept done moments point other → other ≤ first

  -- a point of a kind is held for a round that begins after a tick and has ended before another
  pub record HeldAfter (kind : Kind) (after now point first : ℕ) : Type 0 where
    pub fits : fits_kind kind site point ≡ true
    pub since : after < first
    pub held : IsHeld site kept done moments point first
    pub ended : first + round_of site.format ≤ now

  -- a point of a kind is held for some round that begins after a tick and has ended before another
  abbrev pub IsHeldAfter : Kind → ℕ → ℕ → ℕ → Type 0
  IsHeldAfter kind after now point = (first : ℕ) × HeldAfter kind after now point first

  -- some point of a kind in a zone, besides one where one is named, is held for some round that begins after a tick
  -- and has ended before another
  pub record HasHeldAfter (kind : Kind) (besides : Option ℕ) (zone after now : ℕ) : Type 0 where
    pub point : ℕ
    pub of_zone : is_of site zone point ≡ true
    pub other : is_besides besides point ≡ true
    pub is : IsHeldAfter kind after now point

  -- two points of a kind in a zone are held for rounds that have ended before a tick, the first one for a round that
  -- begins after some tick, the second one for a round that begins after a later tick
  pub record HasTwoHeldAfter (kind : Kind) (zone after later now : ℕ) : Type 0 where
    pub first_point : ℕ
    pub second_point : ℕ
    pub first : ℕ
    pub second : ℕ
    pub differ : first_point ≢ second_point
    pub first_of_zone : is_of site zone first_point ≡ true
    pub second_of_zone : is_of site zone second_point ≡ true
    pub one : HeldAfter kind after now first_point first
    pub two : HeldAfter kind later now second_point second

  -- two points that make a pair for a zone are held for rounds, the first for one that begins after a tick that goes by
  -- the zones of both, the second for one that begins after a later tick
  pub record HasPairAfter (kind : Kind) (zone : ℕ) (bar : ℕ → ℕ) (later now : ℕ) : Type 0 where
    pub first_point : ℕ
    pub second_point : ℕ
    pub first : ℕ
    pub second : ℕ
    pub differ : first_point ≢ second_point
    pub pairs : pairs_up site zone first_point (λ other. is_of site other second_point) ≡ true
    pub since : (other : ℕ) → (is_of site other first_point || is_of site other second_point) ≡ true
        → bar other < first
    pub one : HeldAfter kind 0 now first_point first
    pub two : HeldAfter kind later now second_point second

  -- a detector signals at each tick from one on and before another
  pub record DetectorThrough (point first now : ℕ) : Type 0 where
    pub detects : is_detector site point ≡ true
    pub through : SignalsThrough site kept done moments point first now

  -- some detector of a zone signals at each tick from a first one on and before another
  pub record HasDetectorThrough (zone first now : ℕ) : Type 0 where
    pub point : ℕ
    pub of_zone : is_of site zone point ≡ true
    pub is : DetectorThrough point first now

-- whether something holds of the points, by the runs of the ticks at which they signal, whatever was retained, done and
-- befell
abbrev pub TellsRuns : (Retained → List Done → List Moment → Type 0) → Site → List PointRun → ℕ → Bool → Type 0
TellsRuns AreSo site runs now result =
    (kept : Retained) (done : List Done) (moments : List Moment) → AreRuns site kept done moments now runs
    → (result ≡ true) ↔ AreSo kept done moments
