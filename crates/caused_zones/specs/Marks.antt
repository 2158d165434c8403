-- What is kept of a point's answers that counted.
use Rattle.std.specs.Prelude.{◌≡◌, ℕ, zero, suc, ◌-◌, ◌/◌, ◌%◌, ◌<◌, ◌==◌, ◌&&◌, ◌||◌, nat_lt, Bool, false}
use Rattle.std.specs.Prelude.{List, length}
use Rattle.std.specs.Prelude.{slice_index_or, if◌then◌else◌, Option, Some, None, slice_get}
use Rattle.site_types.specs.declared.point.Point.{Point}
use Rattle.site_types.specs.declared.site.Site.{Site}
use Rattle.point_runs.specs.declared.point_run.PointRun.{PointRun}
use Rattle.caused_zones.specs.declared.point_mark.PointMark.{PointMark}

abbrev pub no_mark : PointMark
no_mark = record { last = 0; first = 0 }

-- an answer counts in a tick: where the one a round before did as well, they make one run
abbrev pub mark_noted : ℕ → ℕ → PointMark → PointMark
mark_noted round now mark =
    record { last = now; first = if nat_lt round now && (mark.last == now - round) then mark.first else now }

-- some place below a number passes a test
abbrev pub passes_below : (ℕ → Bool) → ℕ → Bool
passes_below test zero = false
passes_below test (suc place) = passes_below test place || test place

-- each item of a list is what comes of another list's item at its place
pub record AreEachAfter {X : Type 0} (after : ℕ → X → X) (old new : List X) : Type 0 where
  pub size : length new ≡ length old
  pub each : (place : ℕ) (other : X) → place < length old
      → slice_index_or new place other ≡ after place (slice_index_or old place other)

abbrev pub no_run : PointRun
no_run = record { since = 0; held = 0 }

-- the point signals, by the runs
abbrev pub has_run : List PointRun → ℕ → Bool
has_run runs place = nat_lt 0 (slice_index_or runs place no_run).since

abbrev pub is_asked_of : ℕ → ℕ → Option Point → Bool
is_asked_of round tick None = false
is_asked_of round tick (Some p) = (tick % round) == ((p.address - 1) / 8)

-- the point is asked in a tick, with rounds of so many ticks
abbrev pub is_asked_in : Site → ℕ → ℕ → ℕ → Bool
is_asked_in site round tick place = is_asked_of round tick (slice_get site.points place)

-- the mark of a point after the answers of a tick
abbrev pub after_answers : Site → ℕ → ℕ → List PointRun → ℕ → PointMark → PointMark
after_answers site round now runs place mark =
    if has_run runs place && is_asked_in site round now place then mark_noted round now mark else mark
