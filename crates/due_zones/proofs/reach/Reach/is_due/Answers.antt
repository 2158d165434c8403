use Rattle.std.proofs.Common.{sym, subst}
use Rattle.std.specs.Prelude.{IsTrue, ◌↔◌}
use Rattle.due_zones.specs.Reaching.{IsDueFrom}
use Rattle.due_zones.proofs.reach.Reach.is_due.Goals as goal

pub returns-in-Some : goal.returns-in-Some
returns-in-Some c site kept done moments zone panel valid has =
    subst (λ o. IsTrue c.has_come.result ↔ IsDueFrom site kept done moments zone panel o) (sym c.in-Some.is)
    (c.has_come.ensures site kept done moments zone panel valid has)
