use Rattle.std.proofs.Common.{◌∷◌, subst, sym}
use Rattle.tick_units.specs.declared.task.Task.{Task}
use Rattle.panel_rules.specs.Moments.{Turned}
use Rattle.plain_panel.specs.Network.{StandsFor}
use Rattle.plain_panel.proofs.network.Network.turn.Goals as goal

pub returns-in-Link-clause-stands : goal.returns-in-Link-clause-stands
returns-in-Link-clause-stands c other site kept done before stands tick =
    subst (λ (task : Task). StandsFor site kept done (Turned c.args.panel task ∷ before) c.relay.new.self) (sym c.in-Link.is) (c.relay.ensures.stands site kept done before stands tick)
