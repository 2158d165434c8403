use Rattle.std.proofs.Common.{[], ◌∷◌, ◌++◌, List, arith, drop, map, sym, subst, take, ◌+◌}
use Rattle.service_keepers.specs.Keeping.{ChangesBy}
use Rattle.register_import.specs.Puts.{PutsAtMost, PutsFront, PutsRow, PutsRows}
use Rattle.register_import.specs.Rows.{ImportedTest}
use Rattle.register_import.specs.Views.{row_view}
use Rattle.register_import.proofs.PutInTurn.{changes_more, on_err, puts_more, rows_around, rows_up_to, stops_at}
use Rattle.register_import.proofs.putting.put_rows.Goals as goal

pub loop-row-preserved : goal.loop-row-preserved
loop-row-preserved g c =
    let rows = c.args.rows.now in
    let place = c.loop-row.row-index in
    let row = row_view c.row-item.result in
    let front = map row_view (take place rows) in
    let old = g.R.Keeper.tables c.args.keeper.now in
    let new = g.R.Keeper.tables c.put_row.new.keeper in
    let puts = changes_more (PutsRows front) (PutsRow row) (PutsRows (front ++ row ∷ [])) (puts_more front row) old
    (g.R.Keeper.tables c.loop-row.keeper) new c.loop-row.invariant.put c.in_ok-put_row.ensures.ok in
    record {
      put = subst (λ (xs : List ImportedTest). ChangesBy (PutsRows xs) old new)
          (sym (rows_up_to rows place c.row-item.result c.loop-row-test.true c.row-item.is)) puts;
      counted = omega (arith, c.loop-row.invariant.counted, c.put_row.ensures.cause.later);
    }

pub returns-in_err-put_row-clause-err : goal.returns-in_err-put_row-clause-err
returns-in_err-put_row-clause-err g c =
    let rows = c.args.rows.now in
    let place = c.loop-row.row-index in
    let row = row_view c.row-item.result in
    let front = map row_view (take place rows) in
    let back = map row_view (drop (place + 1) rows) in
    let old = g.R.Keeper.tables c.args.keeper.now in
    let new = g.R.Keeper.tables c.put_row.new.keeper in
    let puts = changes_more (PutsRows front) (PutsAtMost row.visit) (PutsFront (front ++ row ∷ back)) (stops_at front row back) old
    (g.R.Keeper.tables c.loop-row.keeper) new c.loop-row.invariant.put c.in_err-put_row.ensures.err in
    on_err c.from_residual.result (ChangesBy (PutsFront (map row_view rows)) old new)
    (subst (λ (xs : List ImportedTest). ChangesBy (PutsFront xs) old new)
    (sym (rows_around rows place c.row-item.result c.loop-row-test.true c.row-item.is)) puts)
