use Rattle.panel_edges.specs.Faults.{Rose}
use Rattle.import_command.proofs.Answering.{takes_bytes}
use Rattle.import_command.proofs.command.take_file.Goals as goal

pub returns-in-Ok-clause-takes : goal.returns-in-Ok-clause-takes
returns-in-Ok-clause-takes g c =
    takes_bytes (g.F.Shelf.files c.args.shelf.now) c.args.name.now (Rose (g.F.Shelf.faults c.args.shelf.now) (g.F.Shelf.faults c.fetch_named.new.shelf))
    c.args.site.now (g.R.Keeper.tables c.args.keeper.now) (g.R.Keeper.tables c.take_rows.new.keeper) c.in-Ok.bytes.items c.as_slice.result.now
    c.take_rows.result c.in-Ok.ensures.ok c.as_slice.ensures.value c.take_rows.ensures.takes
