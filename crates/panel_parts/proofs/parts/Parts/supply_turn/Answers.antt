use Rattle.panel_rules.specs.Faults.{supply_calls}
use Rattle.panel_parts.proofs.Supplies.{after_supply}
use Rattle.panel_parts.proofs.parts.Parts.supply_turn.Goals as goal

pub returns : goal.returns
returns c site kept done told panel before h past now run =
    after_supply site kept done told panel before c.args.self.now c.turn.new.self c.args.now.0 h now run (c.turn.ensures site.waits (supply_calls panel before))
