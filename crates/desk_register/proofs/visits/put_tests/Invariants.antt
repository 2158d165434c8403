use Rattle.std.proofs.Common.{◌≤◌, take}
use Rattle.service_keepers.specs.Keeping.{ChangesBy}
use Rattle.desk_register.specs.Puts.{PutsTests, tests_at}
use Rattle.desk_register.proofs.visits.put_tests.Given as goal

abbrev pub invariant-loop-place : goal.invariant-loop-place
invariant-loop-place g l =
    record {
      put : ChangesBy (PutsTests (tests_at l.site l.number (take l.place-index l.places))) (g.R.Keeper.tables l.initial.keeper) (g.R.Keeper.tables l.keeper);
      counted : g.R.Keeper.faults l.initial.keeper ≤ g.R.Keeper.faults l.keeper;
    }
