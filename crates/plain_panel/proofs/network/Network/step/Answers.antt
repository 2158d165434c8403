use Rattle.std.proofs.Common.{◌∷◌, subst, sym}
use Rattle.plain_history.specs.declared.moment.Moment.{Moment}
use Rattle.plain_history.specs.Histories.{moment_of}
use Rattle.plain_panel.specs.Network.{IsNotHold, StandsFor}
use Rattle.plain_panel.proofs.network.Network.step.Goals as goal

pub returns-in-Happened-clause-stands : goal.returns-in-Happened-clause-stands
returns-in-Happened-clause-stands c other site kept done before stands tick =
    subst (λ (moment : Moment). StandsFor site kept done (moment_of moment ∷ before) c.hear.new.self) (sym c.in-Happened.is) (c.hear.ensures.stands site kept done before stands)

pub returns-in-Turned-clause-stands : goal.returns-in-Turned-clause-stands
returns-in-Turned-clause-stands c other site kept done before stands tick =
    subst (λ (moment : Moment). StandsFor site kept done (moment_of moment ∷ before) c.turn.new.self) (sym c.in-Turned.is)
    (c.turn.ensures.stands (subst IsNotHold c.in-Turned.is other) site kept done before stands tick)
