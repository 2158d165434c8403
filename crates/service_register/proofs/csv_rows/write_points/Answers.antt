use Rattle.std.proofs.Common.{Some, get_or, length, map, refl, arith, ◌∙◌}
use Rattle.std.proofs.lemmas.Option.{slice_get_read}
use Rattle.service_register.specs.Export.{Writes, rows_text}
use Rattle.service_register.specs.Listed.{listed_row}
use Rattle.service_register.proofs.Rows.{WritesUpTo, all_written, both_told, drop_at, follows_told, listed_at, one_row_more, whatever, writes_start}
use Rattle.service_register.proofs.csv_rows.write_points.Goals as goal

pub loop-place-init : goal.loop-place-init
loop-place-init g c = record {
  written = whatever (WritesUpTo (λ v. Some v.items) c.args.writer.now c.args.writer.now (map listed_row c.args.points.now) c.args.places.now 0)
      (g.R.Keeper.tables c.args.keeper.now)
      (λ kept. writes_start (λ v. Some v.items) c.args.writer.now (map listed_row c.args.points.now) c.args.places.now kept);
  same = refl;
  counted = omega arith;
}

pub loop-place-preserved : goal.loop-place-preserved
loop-place-preserved g c =
    let points = c.args.points.now in
    let places = c.args.places.now in
    let count = c.loop-place.place-index in
    let place = get_or places count 0 in
    let point = c.index-points-place.result in
    let at = listed_at listed_row points place point
    (slice_get_read points (length points) place point refl (c.requires count 0 c.loop-place-test.true) c.index-points-place.is) in
    record {
      written = both_told _ _ _ _ _ c.loop-place.invariant.same c.loop-place.invariant.written c.in_ok-last.ensures.day
          (λ kept before day. one_row_more (λ v. Some v.items) c.args.writer.now c.loop-place.writer c.write_point.new.writer (map listed_row points)
          places count place (listed_row point) c.in_ok-last.last kept (drop_at places count c.loop-place-test.true) at day before
          c.in_ok-write_point.ensures.ok);
      same = c.last_day.ensures.same ∙ c.loop-place.invariant.same;
      counted = omega (arith, c.loop-place.invariant.counted, c.last_day.ensures.cause.later);
    }

pub returns-clause-ok : goal.returns-clause-ok
returns-clause-ok g c =
    let points = map listed_row c.args.points.now in
    let places = c.args.places.now in
    let old = c.args.writer.now in
    let new = c.loop-place.writer in
    let count = c.loop-place.place-index in
    follows_told (WritesUpTo (λ v. Some v.items) old new points places count) (λ kept. Writes (λ v. Some v.items) old new (rows_text kept points places))
    (g.R.Keeper.tables c.args.keeper.now) c.loop-place.invariant.written
    (λ kept before. all_written (λ v. Some v.items) old new points places count kept c.loop-place-test.false before)
