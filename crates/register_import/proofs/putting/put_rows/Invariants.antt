use Rattle.std.proofs.Common.{◌≤◌, map, take}
use Rattle.service_keepers.specs.Keeping.{ChangesBy}
use Rattle.register_import.specs.Puts.{PutsRows}
use Rattle.register_import.specs.Views.{row_view}
use Rattle.register_import.proofs.putting.put_rows.Given as goal

abbrev pub invariant-loop-row : goal.invariant-loop-row
invariant-loop-row g l =
    record {
      put : ChangesBy (PutsRows (map row_view (take l.row-index l.rows))) (g.R.Keeper.tables l.initial.keeper) (g.R.Keeper.tables l.keeper);
      counted : g.R.Keeper.faults l.initial.keeper ≤ g.R.Keeper.faults l.keeper;
    }
