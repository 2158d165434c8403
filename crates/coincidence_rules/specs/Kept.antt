-- What is enough to keep of the answers taken: of a point where its run of counted answers began, of a zone
-- the latest answers of two points.
use Rattle.std.specs.Prelude.{ℕ, Bool, true, false, not, max, List, [], ◌∷◌, Option, Some, None, ◌==◌, ◌&&◌}
use Rattle.std.specs.Prelude.{nat_lt, nat_le, ◌+◌, if◌then◌else◌}
use Rattle.tick_units.specs.declared.tick.Tick.{Tick}
use Rattle.site_types.specs.declared.site.Site.{Site}
use Rattle.site_types.specs.declared.answer.Answer.{Answer}
use Rattle.site_types.specs.declared.rule.Rule.{Rule}
use Rattle.site_types.specs.declared.rule.Rule.TheVariants.{Plain, B, C}
use Rattle.site_types.specs.declared.retained.Retained.{Retained}
use Rattle.site_types.specs.Done.{Done, floor_before, cancelled_before}
use Rattle.coincidence_rules.specs.Places.{is_of, is_detector}
use Rattle.coincidence_rules.specs.Counted.{is_counted}

-- the stamp of the last answer, of another point than this one, that passes a test
abbrev pub latest_besides : (Answer → Bool) → ℕ → Option Tick → List Answer → Option Tick
latest_besides test point stamp [] = stamp
latest_besides test point stamp (answer ∷ answers) =
    latest_besides test point (if test answer && not (answer.point == point) then Some answer.stamp else
    stamp) answers

-- where the run of counted answers began after one more: it begins anew after a floor
abbrev pub run_then : Bool → ℕ → Tick → Option Tick → Option Tick
run_then false floor stamp first = None
run_then true floor stamp None = Some stamp
run_then true floor stamp (Some first) = if nat_lt floor first.0 then Some first else Some stamp

-- where the run of a point's answers began, each of which counts and of which a floor cut none off
abbrev pub run_of : (Answer → Bool) → (ℕ → ℕ) → ℕ → Option Tick → List Answer → Option Tick
run_of counted floor point first [] = first
run_of counted floor point first (answer ∷ answers) =
    run_of counted floor point (if answer.point == point then run_then (counted answer) (floor answer.stamp.0)
    answer.stamp first else first) answers

-- a run began after the floor and long enough before a stamp
abbrev pub is_long : ℕ → ℕ → ℕ → Option Tick → Bool
is_long verify floor stamp None = false
is_long verify floor stamp (Some first) = nat_lt floor first.0 && nat_le (first.0 + verify) stamp

-- whether answers of a detector, or of a call point, make pairs in a zone of a type: in a plain one none do, since each
-- that counts confirms it by itself, and in one of type C both do
abbrev pub makes_pairs : Rule → Bool → Bool
makes_pairs Plain detector = false
makes_pairs C detector = true
makes_pairs _ detector = detector

-- an answer of the zone may make a pair with another one: it counts, and is of a point whose answers make pairs there
abbrev pub may_pair : Site → Retained → List Done → ℕ → Rule → Answer → Bool
may_pair site kept done zone rule answer =
    is_of site zone answer.point
    && (is_counted site kept done answer && makes_pairs rule (is_detector site answer.point))

-- the tick after which an earlier answer must lie
abbrev pub bar : Rule → ℕ → ℕ → ℕ
bar (B within) floor cancelled = max floor cancelled
bar _ floor cancelled = floor

abbrev pub bar_before : Site → List Done → ℕ → Rule → ℕ → ℕ
bar_before site done zone rule x = bar rule (floor_before site zone x done) (cancelled_before zone x done)

-- a stamp after a tick
abbrev pub after : ℕ → Option Tick → Option Tick
after tick None = None
after tick (Some stamp) = if nat_lt tick stamp.0 then Some stamp else None

-- the latest answer of the zone that makes a pair with this one
abbrev pub second_of : Site → Retained → List Done → List Answer → ℕ → Rule → Answer → Option Tick
second_of site kept done answers zone rule answer =
    after (bar_before site done zone rule answer.stamp.0)
    (latest_besides (may_pair site kept done zone rule) answer.point None answers)

-- an earlier stamp, at most so many ticks before
abbrev pub is_within : ℕ → ℕ → Option Tick → Bool
is_within within x None = false
is_within within x (Some stamp) = nat_le x (stamp.0 + within)
