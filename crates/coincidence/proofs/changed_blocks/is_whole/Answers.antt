use Rattle.coincidence.proofs.Steady.{whole_is}
use Rattle.coincidence.proofs.changed_blocks.is_whole.Goals as goal

pub returns-then-run-eq32 : goal.returns-then-run-eq32
returns-then-run-eq32 c is = record {
  whole = whole_is c.args.run.now c.if-run-eq0.true c.if-run-eq32.true;
  numbers = c.has_numbers.ensures is;
}
