use Rattle.panel_rules.specs.Run.{facts_of}
use Rattle.panel_parts.specs.Applied.{applied}
use Rattle.panel_core.proofs.Shows.{asked_panel}
use Rattle.panel_core.proofs.system.System.shown_by_drive.Goals as goal

pub returns : goal.returns
returns c site kept before h run =
    let panel = c.args.panel in
    let done = applied site kept before in
    let facts = facts_of site kept done in
    let stands = asked_panel site kept before c.args.self.now panel c.index.result.now c.requires h c.index.ensures in
    record {
      on = c.on.ensures site facts kept done panel before stands.drives;
      confirmed = c.confirmed.ensures site facts kept done panel before stands.drives h.valid run h.events;
    }
