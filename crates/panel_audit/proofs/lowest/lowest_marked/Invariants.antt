use Rattle.panel_audit.specs.Lowest.{LowestBefore}
use Rattle.panel_audit.proofs.lowest.lowest_marked.Given as goal

-- the things before a place were looked at
abbrev pub invariant-loop-place : goal.invariant-loop-place
invariant-loop-place l = LowestBefore l.things l.marks l.place l.lowest
