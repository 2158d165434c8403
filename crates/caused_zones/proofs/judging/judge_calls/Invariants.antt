use Rattle.std.proofs.Common.{◌&&◌}
use Rattle.coincidence_rules.specs.Confirmed.{is_by_call_point}
use Rattle.caused_zones.specs.Causes.{cause_with}
use Rattle.caused_zones.specs.Judging.{counts_now}
use Rattle.caused_zones.specs.Marks.{AreEachAfter, passes_below}
use Rattle.caused_zones.proofs.judging.judge_calls.Given as goal

-- the answers of the points before a place have been judged
abbrev pub invariant-loop-place : goal.invariant-loop-place
invariant-loop-place l =
    AreEachAfter
    (λ zone cause. cause_with (passes_below (λ place. counts_now l.site l.marks l.now.0 place && is_by_call_point l.site zone place) l.place) cause)
    l.initial.by_hand l.by_hand
