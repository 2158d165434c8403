use Rattle.std.proofs.Common.{◌≡◌, ◌≤◌, Some, map}
use Rattle.std.specs.Prelude.{IfSome}
use Rattle.service_register.specs.Listed.{listed_row}
use Rattle.service_register.proofs.Rows.{WritesUpTo}
use Rattle.service_register.proofs.csv_rows.write_points.Given as goal

abbrev pub invariant-loop-place : goal.invariant-loop-place
invariant-loop-place g l =
    record {
      written :
          IfSome (g.R.Keeper.tables l.initial.keeper)
          (WritesUpTo (λ v. Some v.items) l.initial.writer l.writer (map listed_row l.points) l.places l.place-index);
      same : g.R.Keeper.tables l.keeper ≡ g.R.Keeper.tables l.initial.keeper;
      counted : g.R.Keeper.faults l.initial.keeper ≤ g.R.Keeper.faults l.keeper;
    }
