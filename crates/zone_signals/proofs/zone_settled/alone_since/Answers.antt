use Rattle.std.proofs.Common.{◌-◌, ℕ, Option, Some, sym, subst}
use Rattle.zone_signals.specs.Ended.{EndedAlone}
use Rattle.zone_signals.specs.Least.{IsLeastTick}
use Rattle.zone_signals.proofs.HeldRounds.{differ}
use Rattle.zone_signals.proofs.TicksOn.{alone_found, alone_kept, alone_none}
use Rattle.zone_signals.proofs.zone_settled.alone_since.Goals as goal

pub returns-in-Some : goal.returns-in-Some
returns-in-Some c at kept done moments known rows calm old =
    subst (λ (o : Option ℕ). IsLeastTick (EndedAlone c.args.known.now.site.now kept done moments c.args.zone c.args.known.now.tick) o) (sym c.in-Some.is)
    (alone_kept c.args.known.now.site.now kept done moments c.args.zone c.args.known.now.tick known.told.begun known.told.some calm _
    (subst (λ (o : Option ℕ). IsLeastTick (EndedAlone c.args.known.now.site.now kept done moments c.args.zone (c.args.known.now.tick - 1)) o) c.in-Some.is old))

pub returns-then-alone_ends : goal.returns-then-alone_ends
returns-then-alone_ends c at kept done moments known rows calm old =
    subst (λ (n : ℕ). IsLeastTick (EndedAlone c.args.known.now.site.now kept done moments c.args.zone c.args.known.now.tick) (Some n)) (sym (c.behind_start.ensures known.told.some known.told.begun))
    (alone_found c.args.known.now.site.now kept done moments c.args.zone c.args.known.now.tick known.told.begun known.told.some calm
    ((c.alone_ends.ensures at kept done moments known rows).0 c.if-alone_ends.true)
    (subst (λ (o : Option ℕ). IsLeastTick (EndedAlone c.args.known.now.site.now kept done moments c.args.zone (c.args.known.now.tick - 1)) o) c.in-None.is old))

pub returns-else-alone_ends : goal.returns-else-alone_ends
returns-else-alone_ends c at kept done moments known rows calm old =
    alone_none c.args.known.now.site.now kept done moments c.args.zone c.args.known.now.tick known.told.begun known.told.some calm
    (λ signal. differ c.alone_ends.result ((c.alone_ends.ensures at kept done moments known rows).1 signal) c.if-alone_ends.false)
    (subst (λ (o : Option ℕ). IsLeastTick (EndedAlone c.args.known.now.site.now kept done moments c.args.zone (c.args.known.now.tick - 1)) o) c.in-None.is old)
