use Rattle.std.proofs.Common.{◌≡◌}
use Rattle.std.specs.Prelude.{None}
use Rattle.retained_journal.specs.Fields.{first_in}
use Rattle.retained_journal.specs.Opening.{great_counter}
use Rattle.retained_journal.proofs.front.great_counter.Given as goal

abbrev pub invariant-loop-panel : goal.invariant-loop-panel
invariant-loop-panel l = first_in (great_counter l.at l.front) l.panel ≡ None
