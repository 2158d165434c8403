use Rattle.std.proofs.Common.{rules, ◌≡◌, ◌∙◌, None, [], sym, ap}
use Rattle.std.specs.Prelude.{slice_get, unwrap_or}
use Rattle.std.proofs.lemmas.Option.{unwrap_or-slice_get}
use Rattle.cause_effect.proofs.plan.Plan.outputs_of.Goals as goal

pub returns-in-None : goal.returns-in-None
returns-in-None c =
    let none : slice_get c.args.self.now.outputs c.args.panel ≡ None = search rules in
    ap (λ found. unwrap_or found []) (sym none) ∙ unwrap_or-slice_get c.args.self.now.outputs c.args.panel []
