use Rattle.std.proofs.Common.{sym, subst}
use Rattle.site_types.specs.Changes.{IsSized}
use Rattle.site_types.proofs.CarriedSettings.{sized_nothing}
use Rattle.driven_panel.proofs.driving.opened.Goals as goal

pub open-requires-2-clause-sized : goal.open-requires-2-clause-sized
open-requires-2-clause-sized c = subst IsSized (sym c.empty.ensures) sized_nothing
