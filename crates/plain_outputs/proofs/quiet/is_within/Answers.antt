use Rattle.std.proofs.Common.{◌∙◌}
use Rattle.plain_outputs.proofs.Silencing.{both_else, both_then, within_same}
use Rattle.plain_outputs.proofs.quiet.is_within.Goals as goal

pub returns-then-some_zone : goal.returns-then-some_zone
returns-then-some_zone c test other are are_others =
    both_then _ _ _ _ c.some_zone.ensures c.some_zone_without.ensures c.if-some_zone.true ∙ within_same c.args.site.now c.args.zones.now
    c.args.others.now test other are are_others

pub returns-else-some_zone : goal.returns-else-some_zone
returns-else-some_zone c test other are are_others =
    both_else _ _ _ c.some_zone.ensures c.if-some_zone.false ∙ within_same c.args.site.now c.args.zones.now c.args.others.now test other are
    are_others
