use Rattle.std.proofs.Common.{◌-◌, ℕ, Option, Some, sym, subst}
use Rattle.zone_signals.specs.Ended.{EndedCalls}
use Rattle.zone_signals.specs.Least.{IsLeastTick}
use Rattle.zone_signals.proofs.HeldRounds.{differ}
use Rattle.zone_signals.proofs.TicksOn.{calls_found, calls_kept, calls_none}
use Rattle.zone_signals.proofs.zone_settled.call_since.Goals as goal

pub returns-in-Some : goal.returns-in-Some
returns-in-Some c within kept done moments known rows calm old =
    subst (λ (o : Option ℕ). IsLeastTick (EndedCalls c.args.known.now.site.now kept done moments c.args.zone c.args.known.now.tick) o) (sym c.in-Some.is)
    (calls_kept c.args.known.now.site.now kept done moments c.args.zone c.args.known.now.tick known.told.begun known.told.some calm _
    (subst (λ (o : Option ℕ). IsLeastTick (EndedCalls c.args.known.now.site.now kept done moments c.args.zone (c.args.known.now.tick - 1)) o) c.in-Some.is old))

pub returns-then-call_ends : goal.returns-then-call_ends
returns-then-call_ends c within kept done moments known rows calm old =
    subst (λ (n : ℕ). IsLeastTick (EndedCalls c.args.known.now.site.now kept done moments c.args.zone c.args.known.now.tick) (Some n)) (sym c.round_start.ensures)
    (calls_found c.args.known.now.site.now kept done moments c.args.zone c.args.known.now.tick known.told.begun known.told.some calm
    ((c.call_ends.ensures within kept done moments known rows).0 c.if-call_ends.true)
    (subst (λ (o : Option ℕ). IsLeastTick (EndedCalls c.args.known.now.site.now kept done moments c.args.zone (c.args.known.now.tick - 1)) o) c.in-None.is old))

pub returns-else-call_ends : goal.returns-else-call_ends
returns-else-call_ends c within kept done moments known rows calm old =
    calls_none c.args.known.now.site.now kept done moments c.args.zone c.args.known.now.tick known.told.begun known.told.some calm
    (λ signal. differ c.call_ends.result ((c.call_ends.ensures within kept done moments known rows).1 signal) c.if-call_ends.false)
    (subst (λ (o : Option ℕ). IsLeastTick (EndedCalls c.args.known.now.site.now kept done moments c.args.zone (c.args.known.now.tick - 1)) o) c.in-None.is old)
