use Rattle.std.proofs.Common.{List, subst}
use Rattle.register_import.specs.Answers.{Counts}
use Rattle.register_import.specs.Rows.{ImportedTest}
use Rattle.register_import.proofs.Completed.{part_again, part_completed}
use Rattle.register_import.proofs.laws.imports_are_completed.Goals as goal

pub returns : goal.returns
returns c = record {
  judged = λ site records a b first. part_again site records first.rows a b first.accepted first.puts;
  completed = λ site records imported a b d first again.
      let done = part_completed site records first.rows again.rows a b d first.accepted first.puts again.accepted again.puts in
      record {
        rows = first.rows;
        accepted = first.accepted;
        puts = done.1;
        counts = subst (λ (rows : List ImportedTest). Counts rows imported) done.0 again.counts;
      };
}
