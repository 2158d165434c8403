use Rattle.joined_panels.proofs.WaysKnown.{since_iff}
use Rattle.joined_panels.proofs.way.Way.is_up_since.Goals as goal
use Rattle.std.proofs.Common.{arith}
use Rattle.std.proofs.lemmas.Grind.{common_steps}

pub returns-then-self : goal.returns-then-self
returns-then-self c was_up spread knows =
    let iff = since_iff was_up spread c.args.now c.args.self.now knows c.args.first c.if-self.true (omega arith) in
    (λ h. iff.0 (grind (arith, common_steps, h)), λ h. (let l = iff.1 h in grind (arith, common_steps, l)))
