use Rattle.std.proofs.Common.{◌≡◌, ℕ, List, true}
use Rattle.site_types.specs.declared.retained.Retained.{Retained}
use Rattle.site_types.specs.Done.{Done}
use Rattle.panel_rules.specs.Moments.{Moment}
use Rattle.zone_signals.specs.Kinds.{AreMembers, is_besides}
use Rattle.zone_signals.specs.Rounds.{AreRuns, IsHeldAfter}
use Rattle.zone_signals.proofs.ZonePlaces.{NoneBefore}
use Rattle.zone_signals.proofs.zone_rounds.has_held_after.Given as goal

abbrev pub invariant-loop-k : goal.invariant-loop-k
invariant-loop-k l = (kept : Retained) (done : List Done) (moments : List Moment) (zone : ℕ) → AreRuns l.site kept done moments l.now l.runs
    → AreMembers l.site zone l.members
    → NoneBefore (λ point. (is_besides l.besides point ≡ true) × IsHeldAfter l.site kept done moments l.kind l.after l.now point) l.members l.k
