use Rattle.std.proofs.Common.{inl, inr}
use Rattle.zone_signals.proofs.HeldRounds.{differ}
use Rattle.zone_signals.proofs.PairsHeld.{found, pair_of_each, pair_of_two}
use Rattle.zone_signals.proofs.pairs.pair_held.Goals as goal

pub returns-then-two_held : goal.returns-then-two_held
returns-then-two_held c bar bars kept done moments known = (
  λ _. pair_of_two c.args.known.now.site.now kept done moments c.args.kind c.args.zone c.args.later c.args.known.now.tick c.args.partner bar c.args.own c.args.both bars
      ((c.two_held.ensures kept done moments known).0 c.if-two_held.true),
  λ _. c.if-two_held.true,
)

pub returns-else-two_held : goal.returns-else-two_held
returns-else-two_held c bar bars kept done moments known = (
  λ held. (let across = (c.pair_held_across.ensures kept done moments known).0 held in
      pair_of_each c.args.known.now.site.now kept done moments c.args.kind c.args.zone c.args.later c.args.known.now.tick c.args.partner bar c.args.own c.args.both bars
      known.valid across.other across.is across.found),
  λ pair.
      elim (found c.args.known.now.site.now kept done moments c.args.kind c.args.zone c.args.later c.args.known.now.tick c.args.partner bar c.args.own c.args.both bars pair) [
        | inl two ↦ absurd (differ c.two_held.result ((c.two_held.ensures kept done moments known).1 two) c.if-two_held.false)
        | inr across ↦ (c.pair_held_across.ensures kept done moments known).1 across
      ],
)
