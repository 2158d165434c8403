use Rattle.panel_rules.specs.Faults.{supply_calls}
use Rattle.panel_parts.proofs.Reports.{after_report}
use Rattle.panel_parts.proofs.parts.Parts.set_supply.Goals as goal

pub returns : goal.returns
returns c site kept done told panel before h =
    after_report site kept done told panel before c.args.self.now c.read.new.self c.args.kind c.args.bad h
    (c.read.ensures site.waits (supply_calls panel before) h.supplies)
