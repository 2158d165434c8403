use Rattle.std.proofs.Common.{subst}
use Rattle.panel_conditions.specs.Told.{MarksTold, are_places}
use Rattle.panel_conditions.proofs.PlaceLists.{marked, unmarked}
use Rattle.panel_conditions.proofs.told_missing.ToldMissing.mark.Goals as goal

pub returns-then-place-self : goal.returns-then-place-self
returns-then-place-self c =
    subst (λ old. MarksTold c.args.place c.args.missing old (are_places c.set.new.self c.self.inside.count)) c.self.view_is
    (marked c.self.inside.missing c.set.new.self c.self.inside.count c.args.place c.args.missing c.set.ensures)

pub returns-else-place-self : goal.returns-else-place-self
returns-else-place-self c =
    subst (λ told. MarksTold c.args.place c.args.missing told told) c.self.view_is
    (unmarked c.self.inside.missing c.self.inside.count c.args.place c.args.missing c.if-place-self.false)
