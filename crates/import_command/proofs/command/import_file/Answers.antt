use Rattle.std.proofs.Common.{subst}
use Rattle.std.specs.Prelude.{IfSome}
use Rattle.panel_edges.specs.Faults.{Rose}
use Rattle.panel_edges.specs.Shelves.{file_of}
use Rattle.import_command.specs.Imports.{TakesFile, kept_tables}
use Rattle.import_command.proofs.Answering.{imports_told}
use Rattle.import_command.proofs.command.import_file.Goals as goal

pub returns-in-Ok-clause-answers : goal.returns-in-Ok-clause-answers
returns-in-Ok-clause-answers g c =
    let register = kept_tables g.R.Keeper.tables c.args.keeper.now c.take_file-taken.new.keeper in
    let middle = g.F.Shelf.faults c.load.new.shelf in
    let after = g.F.Shelf.faults c.take_file-taken.new.shelf in
    let takes = subst (λ told. IfSome told (λ files. TakesFile (Rose middle after) c.in-Ok.loaded.site (file_of c.args.file_name.now files) register.before
    register.after c.take_file-taken.result)) c.load.ensures.files c.take_file-taken.ensures.takes in
    imports_told (g.F.Shelf.files c.args.shelf.now) c.args.site_name.now c.args.file_name.now (g.F.Shelf.faults c.args.shelf.now) middle after
    c.load.ensures.later c.in-Ok.loaded.site register (g.K.Stream.written c.args.out.now) (g.K.Stream.written c.tell.new.out) c.tell.result
    c.take_file-taken.result c.in-Ok.ensures.told takes c.tell.ensures.tells
