use Rattle.desk_register.proofs.Replied.{listed_by}
use Rattle.desk_register.proofs.table.table_of.Goals as goal

pub returns-clause-ok : goal.returns-clause-ok
returns-clause-ok g c =
    listed_by c.args.register.now c.args.day c.in_ok-places.places.items c.as_slice.result.now c.export_csv.result
    (g.R.Keeper.tables c.args.keeper.now) (g.R.Keeper.tables c.untested_since.new.keeper) c.untested_since.ensures.same c.as_slice.ensures.value
    c.in_ok-places.ensures.ok c.export_csv.ensures.ok
