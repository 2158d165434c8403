use Rattle.panel_conditions.specs.Parts.{told_finding, plain_told}
use Rattle.panel_conditions.proofs.ZoneRuns.{taken_as_told}
use Rattle.panel_conditions.proofs.zones.Zones.take_plainly.Goals as goal

pub returns : goal.returns
returns c =
    taken_as_told (told_finding c.args.stamp (plain_told c.args.zones)) c.args.self.now c.take_plain.new.self c.mark_plain.new.self c.take_plain.ensures
    (c.mark_plain.ensures.marks c.args.stamp) c.mark_plain.ensures.rest
