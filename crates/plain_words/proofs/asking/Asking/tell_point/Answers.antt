use Rattle.std.proofs.Common.{refl}
use Rattle.panel_rules.specs.Reports.{reports}
use Rattle.plain_words.proofs.Asked.{after_point}
use Rattle.plain_words.proofs.asking.Asking.tell_point.Goals as goal

pub returns-then-stands_at : goal.returns-then-stands_at
returns-then-stands_at c panel history s =
    after_point c.args.site.now panel history c.args.self.now _ s c.args.point c.args.state _ c.stands_at.result refl refl refl refl c.get.ensures
    c.stands_at.ensures c.if-stands_at.true
    (c.set_point.ensures c.args.site.now panel (reports c.args.site.now panel history) s.told)
