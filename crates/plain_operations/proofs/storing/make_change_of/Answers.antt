use Rattle.std.proofs.Common.{sym}
use Rattle.plain_operations.proofs.ChangesMade.{has_place}
use Rattle.plain_operations.proofs.storing.make_change_of.Goals as goal

pub make_change-requires : goal.make_change-requires
make_change-requires c =
    has_place c.args.site.now c.requires c.args.request.now.panel c.args.request.now.operation c.in-Some.change (sym c.in-Some.ensures)
