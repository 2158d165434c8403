use Rattle.std.proofs.Common.{true, sym, subst}
use Rattle.site_types.specs.declared.retained.Retained.{Retained}
use Rattle.retained_journal.specs.Slots.{FitPoints, HasNarrowPoints}
use Rattle.retained_journal.proofs.NewJournals.{keeps_nothing}
use Rattle.storage_trials.proofs.creating.state_of.Goals as goal

pub returns-clause-points : goal.returns-clause-points
returns-clause-points c = subst (λ (s : Retained). FitPoints s.points) (sym c.empty.ensures) (keeps_nothing true).fits

pub returns-clause-narrow : goal.returns-clause-narrow
returns-clause-narrow c = subst (λ (s : Retained). HasNarrowPoints true s.points) (sym c.empty.ensures) (keeps_nothing true).narrow
