use Rattle.std.proofs.Common.{◌≡◌, ◌∙◌, true, refl, sym, arith}
use Rattle.zone_signals.specs.Kinds.{is_besides}
use Rattle.zone_signals.specs.Rounds.{IsHeldAfter}
use Rattle.zone_signals.proofs.HeldRounds.{differ}
use Rattle.zone_signals.proofs.ZonePlaces.{member_at, member_within, none_more, none_of_zone}
use Rattle.zone_signals.proofs.zone_rounds.has_held_after.Goals as goal
use Rattle.zone_signals.proofs.zone_rounds.has_held_after.Goals.{else-is_other-via-then-is_other+else-is_held_after, else-is_other-via-else-is_other}

pub returns-then-is_held_after : goal.returns-then-is_held_after
returns-then-is_held_after c kept done moments zone runs members = (
  λ _. record {
    point = _;
    of_zone = member_at c.args.site.now zone c.args.members.now members c.loop-k.k _ c.loop-k-test.true;
    other = sym c.is_other.ensures ∙ c.if-is_other.true;
    is = (c.is_held_after.ensures kept done moments runs (member_within c.args.site.now zone c.args.members.now members c.loop-k.k _ c.loop-k-test.true)).0
        c.if-is_held_after.true;
  },
  λ _. refl,
)

pub loop-k-preserved : goal.loop-k-preserved
loop-k-preserved c kept done moments zone runs members =
    none_more
    (λ point. (is_besides c.args.besides point ≡ true) × IsHeldAfter c.args.site.now kept done moments c.args.kind c.args.after c.args.now point)
    c.args.members.now c.loop-k.k _ (c.loop-k.invariant kept done moments zone runs members)
    (λ holds. elim c.else-is_other.branch [
      | else-is_other-via-then-is_other+else-is_held_after w ↦
          differ w.is_held_after.result
          ((w.is_held_after.ensures kept done moments runs (member_within c.args.site.now zone c.args.members.now members c.loop-k.k _ c.loop-k-test.true)).1
          holds.1) w.if-is_held_after.false
      | else-is_other-via-else-is_other w ↦ differ c.is_other.result (c.is_other.ensures ∙ holds.0) w.if-is_other.false
    ])

pub returns : goal.returns
returns c kept done moments zone runs members = (
  λ never. absurd (cc),
  λ has. absurd
      (none_of_zone c.args.site.now zone c.args.members.now members
      (λ point. (is_besides c.args.besides point ≡ true) × IsHeldAfter c.args.site.now kept done moments c.args.kind c.args.after c.args.now point) c.loop-k.k
      (omega arith) (c.loop-k.invariant kept done moments zone runs members) has.point has.of_zone (has.other, has.is)),
)
