use Rattle.std.proofs.Common.{◌∙◌, ◌+◌, refl, sym, subst}
use Rattle.shown_causes.specs.Heard.{TellsHeard}
use Rattle.panel_audit.proofs.OutputCauses.{heard_nothing}
use Rattle.panel_audit.proofs.baseless.hear.Goals as goal

pub returns-then-outputs_of-ne0 : goal.returns-then-outputs_of-ne0
returns-then-outputs_of-ne0 c goes =
    let site = c.args.site.now in
    let gone = c.go_over.ensures site c.requires.plan goes in
    record {
      solved = record { facts = refl; solution = gone.solution };
      told = λ some. subst (TellsHeard c.args.causes.now c.args.joined.now site (c.args.place + 1)) (sym gone.facts) c.facts_heard-facts.ensures;
    }

pub returns-else-outputs_of-ne0 : goal.returns-else-outputs_of-ne0
returns-else-outputs_of-ne0 c goes =
    heard_nothing c.args.site.now c.args.causes.now c.args.joined.now c.args.faces.now c.args.place _ goes
    (sym c.outputs_of.ensures ∙ c.if-outputs_of-ne0.false)
