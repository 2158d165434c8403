use Rattle.std.proofs.Common.{subst}
use Rattle.std.proofs.lemmas.Bool.{eqb-true}
use Rattle.panel_conditions.specs.Told.{AreToldInBlock}
use Rattle.panel_conditions.proofs.PlaceLists.{block_told}
use Rattle.panel_conditions.proofs.told_missing.ToldMissing.has_block.Goals as goal

pub returns : goal.returns
returns c is =
    let block = c.args.block.now in
    subst (λ told. AreToldInBlock told block) c.self.view_is
    (block_told c.self.inside.missing c.self.inside.count c.eights_from.result c.joined.result block c.self.invariant.0
    (c.are_within.ensures c.if-not-are_within.false) c.eights_from.ensures c.joined.ensures (eqb-true c.eights_from.result c.joined.result is))
