use Rattle.std.proofs.Common.{◌∙◌, arith}
use Rattle.std.proofs.lemmas.List.{length-set}
use Rattle.loop_poller.proofs.FollowingPoints.{groups_more}
use Rattle.loop_poller.proofs.groups.groups_of.Goals as goal

pub loop-number-preserved : goal.loop-number-preserved
loop-number-preserved c =
    let l = c.loop-number in
    let size = l.invariant.size in
    let below = c.loop-number-test.true in
    record {
      size = length-set l.groups.items l.number c.group_from.result ∙ size;
      groups = groups_more c.args.points.now l.groups.items l.number c.group_from.result (omega (arith, size, below))
          c.group_from.ensures l.invariant.groups;
    }
