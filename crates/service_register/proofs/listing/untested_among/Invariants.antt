use Rattle.std.proofs.Common.{◌≡◌, ◌<◌, ◌≤◌, ◌++◌, drop, length, map}
use Rattle.std.specs.Prelude.{All, IfSome}
use Rattle.service_register.specs.Listed.{listed_row}
use Rattle.service_register.specs.Points.{untested, untested_from}
use Rattle.service_register.proofs.listing.untested_among.Given as goal

abbrev pub invariant-loop-place : goal.invariant-loop-place
invariant-loop-place g l =
    record {
      listed :
          IfSome (g.R.Keeper.tables l.initial.keeper)
          (λ kept. l.places.items ++ untested_from l.place l.day kept (map listed_row (drop l.place l.points))
          ≡ untested l.day kept (map listed_row l.points));
      within : All (λ place. place < length l.points) l.places.items;
      same : g.R.Keeper.tables l.keeper ≡ g.R.Keeper.tables l.initial.keeper;
      counted : g.R.Keeper.faults l.initial.keeper ≤ g.R.Keeper.faults l.keeper;
    }
