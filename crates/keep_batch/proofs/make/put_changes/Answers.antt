use Rattle.std.proofs.Common.{◌≡◌, ◌++◌, ◌≤◌, [], length, subst, sym}
use Rattle.std.specs.List.{cons_option}
use Rattle.keep_batch.proofs.Putting.{change_fits, change_put}
use Rattle.keep_batch.proofs.make.put_changes.Goals as goal

pub put_change-requires : goal.put_change-requires
put_change-requires c =
    subst (λ o. length (c.loop-request.batch.items ++ cons_option o []) ≤ 72) (sym c.change_of.ensures)
    (change_fits c.args.site.now c.args.waiting.now c.args.batch.now.items c.loop-request.batch.items c.loop-request.request-index 72 _
    c.loop-request-test.true c.loop-request.invariant c.requires)

pub loop-request-preserved : goal.loop-request-preserved
loop-request-preserved c =
    change_put c.args.site.now c.args.waiting.now c.args.batch.now.items c.loop-request.batch.items c.put_change.new.batch.items
    c.loop-request.request-index _ c.loop-request-test.true c.loop-request.invariant
    (subst (λ o. c.put_change.new.batch.items ≡ c.loop-request.batch.items ++ cons_option o []) c.change_of.ensures c.put_change.ensures)
