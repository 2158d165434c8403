use Rattle.site_types.specs.declared.site.Site.{Site}
use Rattle.cause_effect.specs.Stands.{IsPlanOf}
use Rattle.due_outputs.specs.Solved.{HaveSolved}
use Rattle.due_outputs.proofs.Places.{GoneBelow}
use Rattle.due_outputs.proofs.due_outputs.go_over_each.Given as goal

abbrev pub invariant-loop-place : goal.invariant-loop-place
invariant-loop-place l = (site : Site) → IsPlanOf site l.plan → HaveSolved site l.initial.panels → GoneBelow site l.due l.place l.panels
