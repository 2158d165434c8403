use Rattle.std.proofs.Common.{Some, refl, arith}
use Rattle.zone_signals.specs.Rounds.{HasHeldAfter, IsHeldAfter}
use Rattle.zone_signals.proofs.HeldRounds.{differ}
use Rattle.zone_signals.proofs.ZonePlaces.{member_at, member_within, none_more, none_of_zone}
use Rattle.zone_signals.proofs.TwoHeld.{two_from, from_two}
use Rattle.zone_signals.proofs.zone_rounds.has_two_held_after.Goals as goal
use Rattle.zone_signals.proofs.zone_rounds.has_two_held_after.Goals.{else-is_held_after-via-then-is_held_after+else-has_held_after, else-is_held_after-via-else-is_held_after}

pub returns-then-has_held_after : goal.returns-then-has_held_after
returns-then-has_held_after c kept done moments zone runs members = (
  λ _. two_from c.args.site.now kept done moments c.args.kind zone c.args.after c.args.later c.args.now _
      (member_at c.args.site.now zone c.args.members.now members c.loop-k.k _ c.loop-k-test.true)
      ((c.is_held_after.ensures kept done moments runs
      (member_within c.args.site.now zone c.args.members.now members c.loop-k.k _ c.loop-k-test.true)).0 c.if-is_held_after.true)
      ((c.has_held_after.ensures kept done moments zone runs members).0 c.if-has_held_after.true),
  λ _. refl,
)

pub loop-k-preserved : goal.loop-k-preserved
loop-k-preserved c kept done moments zone runs members =
    none_more
    (λ point. IsHeldAfter c.args.site.now kept done moments c.args.kind c.args.later c.args.now point
    × HasHeldAfter c.args.site.now kept done moments c.args.kind (Some point) zone c.args.after c.args.now)
    c.args.members.now c.loop-k.k _ (c.loop-k.invariant kept done moments zone runs members)
    (λ holds. elim c.else-is_held_after.branch [
      | else-is_held_after-via-then-is_held_after+else-has_held_after w ↦
          differ w.has_held_after.result ((w.has_held_after.ensures kept done moments zone runs members).1 holds.1) w.if-has_held_after.false
      | else-is_held_after-via-else-is_held_after w ↦
          differ c.is_held_after.result
          ((c.is_held_after.ensures kept done moments runs
          (member_within c.args.site.now zone c.args.members.now members c.loop-k.k _ c.loop-k-test.true)).1 holds.0) w.if-is_held_after.false
    ])

pub returns : goal.returns
returns c kept done moments zone runs members = (
  λ never. absurd (cc),
  λ has. absurd
      (none_of_zone c.args.site.now zone c.args.members.now members
      (λ point. IsHeldAfter c.args.site.now kept done moments c.args.kind c.args.later c.args.now point
      × HasHeldAfter c.args.site.now kept done moments c.args.kind (Some point) zone c.args.after c.args.now) c.loop-k.k
      (omega arith) (c.loop-k.invariant kept done moments zone runs members) has.second_point has.second_of_zone
      (from_two c.args.site.now kept done moments c.args.kind zone c.args.after c.args.later c.args.now has)),
)
