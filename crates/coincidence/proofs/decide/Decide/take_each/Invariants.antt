use Rattle.std.proofs.Common.{◌+◌, ◌≤◌}
use Rattle.answer_lanes.specs.Points.{finding_at}
use Rattle.answer_lanes.specs.Runs.{items_of}
use Rattle.tick_units.specs.Lane.{with_put}
use Rattle.coincidence.specs.Changes.{PutsFindings, TakesAnswers}
use Rattle.coincidence.proofs.RunItems.{before}
use Rattle.coincidence.proofs.decide.Decide.take_each.Given as goal

-- the findings of the answers before a place lie in the lane, or in the run that is gathered
abbrev pub invariant-loop-place : goal.invariant-loop-place
invariant-loop-place l = record {
  taken : TakesAnswers l.initial.self (before l.run l.place) l.self;
  put : PutsFindings l.initial.self (before l.run l.place) l.initial.findings (with_put l.findings (items_of finding_at l.found));
  eight : l.found.taken + l.found.count ≤ 8;
}
