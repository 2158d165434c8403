use Rattle.std.proofs.Common.{◌-◌, ℕ, Option, Some, sym, subst}
use Rattle.zone_signals.specs.Ended.{EndedSeconds}
use Rattle.zone_signals.specs.Least.{IsLeastTick}
use Rattle.zone_signals.proofs.HeldRounds.{differ}
use Rattle.zone_signals.proofs.TicksOn.{seconds_found, seconds_kept, seconds_none}
use Rattle.zone_signals.proofs.zone_settled.second_since.Goals as goal

pub returns-in-Some : goal.returns-in-Some
returns-in-Some c at kept done moments known rows calm old =
    subst (λ (o : Option ℕ). IsLeastTick (EndedSeconds c.args.known.now.site.now kept done moments c.args.zone c.args.known.now.tick) o) (sym c.in-Some.is)
    (seconds_kept c.args.known.now.site.now kept done moments c.args.zone c.args.known.now.tick known.told.begun known.told.some calm _
    (subst (λ (o : Option ℕ). IsLeastTick (EndedSeconds c.args.known.now.site.now kept done moments c.args.zone (c.args.known.now.tick - 1)) o) c.in-Some.is old))

pub returns-then-release_ends : goal.returns-then-release_ends
returns-then-release_ends c at kept done moments known rows calm old =
    subst (λ (n : ℕ). IsLeastTick (EndedSeconds c.args.known.now.site.now kept done moments c.args.zone c.args.known.now.tick) (Some n)) (sym c.round_start.ensures)
    (seconds_found c.args.known.now.site.now kept done moments c.args.zone c.args.known.now.tick known.told.begun known.told.some calm
    ((c.release_ends.ensures at kept done moments known rows).0 c.if-release_ends.true)
    (subst (λ (o : Option ℕ). IsLeastTick (EndedSeconds c.args.known.now.site.now kept done moments c.args.zone (c.args.known.now.tick - 1)) o) c.in-None.is old))

pub returns-else-release_ends : goal.returns-else-release_ends
returns-else-release_ends c at kept done moments known rows calm old =
    seconds_none c.args.known.now.site.now kept done moments c.args.zone c.args.known.now.tick known.told.begun known.told.some calm
    (λ signal. differ c.release_ends.result ((c.release_ends.ensures at kept done moments known rows).1 signal) c.if-release_ends.false)
    (subst (λ (o : Option ℕ). IsLeastTick (EndedSeconds c.args.known.now.site.now kept done moments c.args.zone (c.args.known.now.tick - 1)) o) c.in-None.is old)
