use Rattle.std.proofs.Common.{◌∷◌, subst, sym}
use Rattle.site_types.specs.declared.event.Event.{Event}
use Rattle.panel_rules.specs.Moments.{Happened}
use Rattle.plain_panel.specs.Network.{StandsFor}
use Rattle.plain_panel.proofs.network.Network.hear.Goals as goal

pub returns-in-Link-clause-stands : goal.returns-in-Link-clause-stands
returns-in-Link-clause-stands c site kept done before stands =
    subst (λ (event : Event). StandsFor site kept done (Happened event ∷ before) c.set_link.new.self) (sym c.in-Link.is)
    (c.set_link.ensures.stands site kept done before stands)
