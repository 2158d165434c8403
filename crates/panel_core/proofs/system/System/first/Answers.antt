use Rattle.panel_parts.specs.Applied.{done_so_far}
use Rattle.panel_core.proofs.Shows.{first_of, lone_first}
use Rattle.panel_core.proofs.system.System.first.Goals as goal

pub returns-clause-shown : goal.returns-clause-shown
returns-clause-shown c site kept before h run =
    first_of site kept before c.args.self.now c.args.panel c.index-parts.result.now c.word.result c.requires h c.index-parts.ensures
    (c.word.ensures site kept c.args.panel) run

pub returns-clause-lone : goal.returns-clause-lone
returns-clause-lone c site kept before zone plan h run ended is at lone =
    lone_first site kept (done_so_far site kept before) c.args.panel before h.valid run zone plan is at c.word.result.first
    (first_of site kept before c.args.self.now c.args.panel c.index-parts.result.now c.word.result c.requires h c.index-parts.ensures
    (c.word.ensures site kept c.args.panel) run) ended lone
