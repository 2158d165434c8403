use Rattle.std.proofs.Common.{refl, arith}
use Rattle.zone_signals.specs.Rounds.{DetectorThrough}
use Rattle.zone_signals.proofs.HeldRounds.{differ}
use Rattle.zone_signals.proofs.ZonePlaces.{member_at, member_within, none_more, none_of_zone}
use Rattle.zone_signals.proofs.zone_rounds.has_detector_since.Goals as goal

pub returns-then-signals_since : goal.returns-then-signals_since
returns-then-signals_since c zone members one past kept done moments runs = (
  λ _. record {
    point = _;
    of_zone = member_at c.args.site.now zone c.args.members.now members c.loop-k.k _ c.loop-k-test.true;
    is = (c.signals_since.ensures (member_within c.args.site.now zone c.args.members.now members c.loop-k.k _ c.loop-k-test.true) one past kept done moments runs).0 c.if-signals_since.true;
  },
  λ _. refl,
)

pub loop-k-preserved : goal.loop-k-preserved
loop-k-preserved c kept done moments zone runs members one past =
    none_more (λ point. DetectorThrough c.args.site.now kept done moments point c.args.first c.args.now) c.args.members.now c.loop-k.k _
    (c.loop-k.invariant kept done moments zone runs members one past)
    (λ holds. differ c.signals_since.result
    ((c.signals_since.ensures (member_within c.args.site.now zone c.args.members.now members c.loop-k.k _ c.loop-k-test.true) one past kept done moments runs).1 holds) c.if-signals_since.false)

pub returns : goal.returns
returns c zone members one past kept done moments runs = (
  λ never. absurd (cc),
  λ has. absurd
      (none_of_zone c.args.site.now zone c.args.members.now members
      (λ point. DetectorThrough c.args.site.now kept done moments point c.args.first c.args.now) c.loop-k.k (omega arith)
      (c.loop-k.invariant kept done moments zone runs members one past) has.point has.of_zone has.is),
)
