use Rattle.panel_conditions.proofs.ZoneRuns.{taken_as_told}
use Rattle.panel_conditions.proofs.zones.Zones.take_all.Goals as goal

pub returns : goal.returns
returns c =
    taken_as_told c.args.finding.now c.args.self.now c.take_each.new.self c.mark.new.self c.take_each.ensures c.mark.ensures.marks
    c.mark.ensures.rest
