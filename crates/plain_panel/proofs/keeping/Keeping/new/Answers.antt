use Rattle.std.proofs.Common.{[], refl}
use Rattle.plain_panel.proofs.keeping.Keeping.new.Goals as goal

pub returns : goal.returns
returns c = record { desk = c.new.ensures c.args.site.now c.args.kept.now; state = c.in_ok-new.ensures c.args.kept.now []; stored = refl }
