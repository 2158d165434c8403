use Rattle.std.proofs.Common.{◌&&◌}
use Rattle.caused_zones.specs.Causes.{cause_with}
use Rattle.caused_zones.specs.Judging.{confirms_by, counts_now, touches}
use Rattle.caused_zones.specs.Marks.{AreEachAfter, passes_below}
use Rattle.caused_zones.proofs.judging.judge_alarms.Given as goal

-- the answers of the points before a place have been judged
abbrev pub invariant-loop-place : goal.invariant-loop-place
invariant-loop-place l =
    AreEachAfter
    (λ zone cause. cause_with (passes_below (λ place. counts_now l.site l.marks l.now.0 place
    && (touches l.site l.marks l.now.0 place zone && confirms_by l.site l.marks l.now.0 zone place)) l.place) cause)
    l.initial.alarms l.alarms
