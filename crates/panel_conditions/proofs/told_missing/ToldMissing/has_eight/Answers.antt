use Rattle.std.proofs.Common.{ap, subst, arith}
use Rattle.std.proofs.lemmas.Bool.{eqb-true}
use Rattle.site_types.specs.Bits.{has_bit}
use Rattle.answer_lanes.specs.Blocks.{eight_found}
use Rattle.panel_conditions.specs.Told.{AreTold, group_run}
use Rattle.panel_conditions.proofs.PlaceLists.{told_in}
use Rattle.panel_conditions.proofs.told_missing.ToldMissing.has_eight.Goals as goal

pub returns-then-first-self : goal.returns-then-first-self
returns-then-first-self c is =
    let eight = group_run (eight_found c.args.block.now c.args.number).group in
    let told = c.eight_within.result in
    subst (λ l. AreTold l eight) c.self.view_is
    (told_in c.self.inside.missing c.self.inside.count told eight (omega arith) c.self.invariant.0 c.if-first-self.true c.eight_within.ensures
    (λ place from below. ap (λ m. has_bit m place) (eqb-true told eight.first.missing is)))
