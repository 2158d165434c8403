use Rattle.panel_parts.proofs.Panels.{after_drive}
use Rattle.panel_parts.proofs.parts.Parts.drive_turn.Goals as goal

pub returns : goal.returns
returns c site kept done told panel before h now free latest off =
    after_drive site kept done told panel before c.args.self.now c.turn.new.self h
    (c.turn.ensures site told.facts kept done panel before h.drives h.polls.asks.valid latest (record {
      at = now;
      asked = c.requests-requests.ensures site told.facts panel before h.polls.asks.valid free h.effects;
      zones = c.released.ensures site told.facts panel before h.effects;
      disabled = off;
    }))
