use Rattle.std.proofs.Common.{sym, subst}
use Rattle.panel_conditions.specs.Changes.{TakesTold}
use Rattle.panel_conditions.specs.Parts.{told_finding}
use Rattle.panel_conditions.proofs.Plain.{told_plainly}
use Rattle.panel_conditions.proofs.zones.Zones.take_told.Goals as goal

pub returns-then-is_plain : goal.returns-then-is_plain
returns-then-is_plain c =
    subst (λ t. TakesTold (told_finding c.args.stamp t) c.args.self.now c.take_plainly.new.self)
    (sym (told_plainly c.args.told.now (c.is_plain.ensures.0 c.if-is_plain.true))) c.take_plainly.ensures

pub returns-else-is_plain : goal.returns-else-is_plain
returns-else-is_plain c = subst (λ f. TakesTold f c.args.self.now c.take_all.new.self) c.told_finding.ensures c.take_all.ensures
