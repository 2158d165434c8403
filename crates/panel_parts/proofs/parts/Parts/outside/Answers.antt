use Rattle.panel_rules.specs.Faults.{supply_calls}
use Rattle.panel_rules.specs.Reports.{reports}
use Rattle.panel_parts.proofs.Holds.{outside_is}
use Rattle.panel_parts.proofs.parts.Parts.outside.Goals as goal

pub returns : goal.returns
returns c site kept done told panel before h run =
    outside_is site panel before c.faults.result c.broken.result c.shorted.result c.args.silent c.args.links c.unconfirmed.result _
    (c.faults.ensures site.waits (supply_calls panel before) h.supplies) (c.broken.ensures site panel (reports site panel before) h.polls)
    (c.shorted.ensures site panel (reports site panel before) h.polls)
    (c.unconfirmed.ensures site told.facts kept done panel before h.drives h.polls.asks.valid run)
