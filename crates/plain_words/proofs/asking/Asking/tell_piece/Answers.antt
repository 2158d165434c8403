use Rattle.std.proofs.Common.{refl}
use Rattle.panel_rules.specs.Reports.{reports}
use Rattle.plain_words.proofs.Asked.{after_piece}
use Rattle.plain_words.proofs.asking.Asking.tell_piece.Goals as goal

pub returns-then-line-le4 : goal.returns-then-line-le4
returns-then-line-le4 c panel history s =
    after_piece c.args.site.now panel history c.args.self.now _ s c.args.panel c.args.line c.args.piece c.args.state refl refl refl refl
    c.if-panel-self.true c.if-line-ge1.true c.if-line-le4.true
    (c.set_piece.ensures c.args.site.now panel (reports c.args.site.now panel history) s.told)
