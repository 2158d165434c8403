use Rattle.std.proofs.Common.{◌≡◌, ◌≤◌, map}
use Rattle.std.specs.Prelude.{IfSome}
use Rattle.service_keepers.specs.MemoryRows.{tables_of}
use Rattle.register_import.specs.Judged.{tables_of_rows}
use Rattle.register_import.specs.Views.{row_view}
use Rattle.register_import.proofs.RowByRow.{LeftToJudge}
use Rattle.register_import.proofs.judging.judge_rows.Given as goal

abbrev pub invariant-loop-place : goal.invariant-loop-place
invariant-loop-place g l =
    record {
      judged : IfSome (g.R.Keeper.tables l.initial.keeper) (LeftToJudge l.site l.judged.rows.items l.rows l.place);
      filled : tables_of l.judged.filled.tables ≡ tables_of_rows (map row_view l.judged.rows.items);
      same : g.R.Keeper.tables l.keeper ≡ g.R.Keeper.tables l.initial.keeper;
      counted : g.R.Keeper.faults l.initial.keeper ≤ g.R.Keeper.faults l.keeper;
    }
