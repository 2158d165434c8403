use Rattle.std.proofs.Common.{◌≡◌, ◌+◌, sym, subst, ap, ◌∙◌, nat_le, sum_by, take, List}
use Rattle.marker_table.specs.declared.mask.Mask.{Mask}
use Rattle.marker_table.specs.Table.{count_in}
use Rattle.marker_table.proofs.Rows.{met_early}
use Rattle.marker_table.proofs.row.Row.is_met.Goals as goal

pub returns-then-count-left : goal.returns-then-count-left
returns-then-count-left c =
    let row = c.args.self.now in
    let counts = count_in c.args.readings.now in
    met_early row.needed c.loop-mask.left c.count-count.result c.loop-mask.mask-index counts c.as_slice-mask-items.result.now _
    (subst (λ (masks : List Mask). c.loop-mask.left + sum_by counts (take c.loop-mask.mask-index masks) ≡ row.needed)
    (sym c.as_slice-mask-items.ensures) c.loop-mask.invariant)
    c.if-count-left.true c.count-count.ensures c.loop-mask-test.true ∙
    ap (λ masks. nat_le row.needed (sum_by counts masks)) c.as_slice-mask-items.ensures
