use Rattle.std.proofs.Common.{◌-◌, ℕ, Option, Some, sym, subst}
use Rattle.zone_signals.specs.Ended.{EndedRounds}
use Rattle.zone_signals.specs.Least.{IsLeastTick}
use Rattle.zone_signals.proofs.HeldRounds.{differ}
use Rattle.zone_signals.proofs.TicksOn.{rounds_found, rounds_kept, rounds_none}
use Rattle.zone_signals.proofs.zone_settled.round_since.Goals as goal

pub returns-in-Some : goal.returns-in-Some
returns-in-Some c at kept done moments known rows calm old =
    subst (λ (o : Option ℕ). IsLeastTick (EndedRounds c.args.known.now.site.now kept done moments c.args.zone c.args.known.now.tick) o) (sym c.in-Some.is)
    (rounds_kept c.args.known.now.site.now kept done moments c.args.zone c.args.known.now.tick known.told.begun known.told.some calm _
    (subst (λ (o : Option ℕ). IsLeastTick (EndedRounds c.args.known.now.site.now kept done moments c.args.zone (c.args.known.now.tick - 1)) o) c.in-Some.is old))

pub returns-then-round_ends : goal.returns-then-round_ends
returns-then-round_ends c at kept done moments known rows calm old =
    subst (λ (n : ℕ). IsLeastTick (EndedRounds c.args.known.now.site.now kept done moments c.args.zone c.args.known.now.tick) (Some n)) (sym c.round_start.ensures)
    (rounds_found c.args.known.now.site.now kept done moments c.args.zone c.args.known.now.tick known.told.begun known.told.some calm
    ((c.round_ends.ensures at kept done moments known rows).0 c.if-round_ends.true)
    (subst (λ (o : Option ℕ). IsLeastTick (EndedRounds c.args.known.now.site.now kept done moments c.args.zone (c.args.known.now.tick - 1)) o) c.in-None.is old))

pub returns-else-round_ends : goal.returns-else-round_ends
returns-else-round_ends c at kept done moments known rows calm old =
    rounds_none c.args.known.now.site.now kept done moments c.args.zone c.args.known.now.tick known.told.begun known.told.some calm
    (λ signal. differ c.round_ends.result ((c.round_ends.ensures at kept done moments known rows).1 signal) c.if-round_ends.false)
    (subst (λ (o : Option ℕ). IsLeastTick (EndedRounds c.args.known.now.site.now kept done moments c.args.zone (c.args.known.now.tick - 1)) o) c.in-None.is old)
