use Rattle.std.proofs.Common.{◌≡◌, inl, inr, All, Ok, Err, ap, subst, sym, ◌∙◌, refl, arith, ◌<◌, length}
use Rattle.sqlite.specs.Held.{state}
use Rattle.service_keepers.specs.Tables.{last_day_of}
use Rattle.register_sqlite.specs.declared.trouble.Trouble.TheVariants.{Text}
use Rattle.register_sqlite.specs.Stored.{tables_in}
use Rattle.register_sqlite.specs.Texts.{point_params, select_tests_text}
use Rattle.register_sqlite.proofs.Asked.{ask_fails, day_stepped, last_answered, last_refused, rows_numbered, stays_then, tests_stay}
use Rattle.register_sqlite.proofs.Reading.{select_tests_wants}
use Rattle.register_sqlite.proofs.FoundRows.{clean_before, each_ended, each_refused, each_stepped, follows_then}
use Rattle.register_sqlite.proofs.Wanting.{steadily}
use Rattle.register_sqlite.specs.Asked.{HasNumber}
use Rattle.register_sqlite.proofs.asking.last_day.Goals as goal

pub returns-in-Err-clause-register : goal.returns-in-Err-clause-register
returns-in-Err-clause-register g c steady register =
    let held = steady c.select_tests.new.conn in
    let old = state g.S.Store c.args.conn.now in
    let mid = state g.S.Store c.select_tests.new.conn in
    let it = steadily g.S.Store steady c.args.conn.now c.select_tests.new.conn c.select_tests.ensures.follows in
    let h = rw c.in-Err.is at (c.select_tests.ensures.err held.0) in
    ask_fails old mid it register (λ day kept. day ≡ last_day_of c.args.point.now.bytes kept) select_tests_text (point_params c.args.point.now.bytes) c.in-Err.error
    (Text c.in-Err.error) h (select_tests_wants old mid it register c.args.point.now.bytes c.in-Err.error h)

pub loop-row-init : goal.loop-row-init
loop-row-init g c = (
  λ steady register numbered. (record { register = register; same = refl; was_open = (steady c.select_tests.new.conn).1 }, refl),
  (omega arith, refl),
  λ clean new result h. h,
)

pub returns-in-Err-day_of_row-clause-register : goal.returns-in-Err-day_of_row-clause-register
returns-in-Err-day_of_row-clause-register g c steady register =
    let held = steady c.select_tests.new.conn in
    let old = state g.S.Store c.args.conn.now in
    let mid = state g.S.Store c.select_tests.new.conn in
    let new = state g.S.Store c.day_of_row.new.conn in
    let it = steadily g.S.Store steady c.args.conn.now c.select_tests.new.conn c.select_tests.ensures.follows in
    let shown = rw c.in-Ok.is at (c.select_tests.ensures.ok held.0) in
    let stay = tests_stay old mid new register it c.args.point.now.bytes c.in-Ok.rows.items shown in
    let numbered = subst (All HasNumber) (sym c.deref-row-items.ensures.value) (rows_numbered old mid new register it c.args.point.now.bytes c.in-Ok.rows.items shown) in
    let low : c.loop-row.row-index < length c.deref-row-items.result.now = omega (arith, c.loop-row-test.true, c.loop-row.auto.row-index-end) in
    let so_far = c.loop-row.invariant.0 steady stay.register numbered in
    let day = rw c.in-Err-day_of_row.is at (c.day_of_row.ensures.register steady so_far.0.register (subst HasNumber (sym c.row-item.is) (numbered c.loop-row.row-index _ low))) in
    last_refused old mid new register it c.args.point.now.bytes c.in-Ok.rows.items shown c.in-Err-day_of_row.trouble
    (stays_then mid (state g.S.Store c.loop-row.conn) new so_far.0 day.stays) day.refused

pub loop-row-preserved : goal.loop-row-preserved
loop-row-preserved g c =
    let mid = state g.S.Store c.select_tests.new.conn in
    let before = state g.S.Store c.loop-row.conn in
    let after = state g.S.Store c.day_of_row.new.conn in
    let low : c.loop-row.row-index < length c.deref-row-items.result.now = omega (arith, c.loop-row-test.true, c.loop-row.auto.row-index-end) in (
      λ steady register numbered.
          let so_far = c.loop-row.invariant.0 steady register numbered in
          let has = subst HasNumber (sym c.row-item.is) (numbered c.loop-row.row-index _ low) in
          let day = rw c.in-Ok-day_of_row.is at (c.day_of_row.ensures.register steady so_far.0.register has) in
          let visits = ap (λ d. (tables_in d.trees).visits) so_far.0.same in (
            stays_then mid before after so_far.0 day.stays,
            day_stepped (tables_in mid.now.trees).visits c.deref-row-items.result.now c.loop-row.row-index c.row-item.result c.loop-row.last c.in-Ok-day_of_row.day
                c.later-last.result low c.row-item.is (rw visits at day.so) c.later-last.ensures ∙ so_far.1,
          ),
      follows_then mid before after c.loop-row.invariant.1 c.day_of_row.ensures.follows,
      λ clean new result h. c.loop-row.invariant.2 (clean_before before after c.day_of_row.ensures.follows clean) new result
          (each_stepped g.S.Store c.deref-row-items.result.now c.loop-row.row-index c.row-item.result low c.row-item.is c.loop-row.last c.in-Ok-day_of_row.day
          c.later-last.result c.loop-row.conn c.day_of_row.new.conn new result (rw c.in-Ok-day_of_row.is at (c.day_of_row.ensures.asked clean)) c.later-last.ensures h),
    )

pub returns-clause-register : goal.returns-clause-register
returns-clause-register g c steady register =
    let held = steady c.select_tests.new.conn in
    let old = state g.S.Store c.args.conn.now in
    let mid = state g.S.Store c.select_tests.new.conn in
    let new = state g.S.Store c.loop-row.conn in
    let it = steadily g.S.Store steady c.args.conn.now c.select_tests.new.conn c.select_tests.ensures.follows in
    let shown = rw c.in-Ok.is at (c.select_tests.ensures.ok held.0) in
    let stay = tests_stay old mid new register it c.args.point.now.bytes c.in-Ok.rows.items shown in
    let numbered = subst (All HasNumber) (sym c.deref-row-items.ensures.value) (rows_numbered old mid new register it c.args.point.now.bytes c.in-Ok.rows.items shown) in
    let so_far = c.loop-row.invariant.0 steady stay.register numbered in
    last_answered old mid new register it c.args.point.now.bytes c.in-Ok.rows.items shown c.deref-row-items.result.now c.loop-row.row-index c.loop-row.last
    c.deref-row-items.ensures.value (omega (arith, c.loop-row-test.false, c.loop-row.auto.row-index-end)) so_far.0 so_far.1

-- ---- what is told

pub returns-in-Err-clause-asked : goal.returns-in-Err-clause-asked
returns-in-Err-clause-asked g c clean = inl (c.in-Err.error, rw c.in-Err.is at (c.select_tests.ensures.err clean), refl)

pub returns-in-Err-day_of_row-clause-follows : goal.returns-in-Err-day_of_row-clause-follows
returns-in-Err-day_of_row-clause-follows g c =
    let mid = state g.S.Store c.select_tests.new.conn in
    follows_then (state g.S.Store c.args.conn.now) mid (state g.S.Store c.day_of_row.new.conn) c.select_tests.ensures.follows
    (follows_then mid (state g.S.Store c.loop-row.conn) (state g.S.Store c.day_of_row.new.conn) c.loop-row.invariant.1 c.day_of_row.ensures.follows)

pub returns-in-Err-day_of_row-clause-asked : goal.returns-in-Err-day_of_row-clause-asked
returns-in-Err-day_of_row-clause-asked g c clean =
    let mid = state g.S.Store c.select_tests.new.conn in
    let before = state g.S.Store c.loop-row.conn in
    let after = state g.S.Store c.day_of_row.new.conn in
    let clean_then = clean_before before after c.day_of_row.ensures.follows clean in
    let shown = rw c.in-Ok.is at (c.select_tests.ensures.ok (clean_before mid before c.loop-row.invariant.1 clean_then)) in
    let low : c.loop-row.row-index < length c.deref-row-items.result.now = omega (arith, c.loop-row-test.true, c.loop-row.auto.row-index-end) in
    let refused = rw c.in-Err-day_of_row.is at (c.day_of_row.ensures.asked clean) in
    let all = c.loop-row.invariant.2 clean_then c.day_of_row.new.conn (Err c.in-Err-day_of_row.trouble)
    (each_refused g.S.Store c.deref-row-items.result.now c.loop-row.row-index c.row-item.result low c.row-item.is c.loop-row.last c.loop-row.conn
    c.day_of_row.new.conn c.in-Err-day_of_row.trouble refused) in
    inr (c.select_tests.new.conn, c.in-Ok.rows.items, shown, rw c.deref-row-items.ensures.value at all)

pub returns-clause-follows : goal.returns-clause-follows
returns-clause-follows g c =
    follows_then (state g.S.Store c.args.conn.now) (state g.S.Store c.select_tests.new.conn) (state g.S.Store c.loop-row.conn) c.select_tests.ensures.follows
    c.loop-row.invariant.1

pub returns-clause-asked : goal.returns-clause-asked
returns-clause-asked g c clean =
    let mid = state g.S.Store c.select_tests.new.conn in
    let shown = rw c.in-Ok.is at (c.select_tests.ensures.ok (clean_before mid (state g.S.Store c.loop-row.conn) c.loop-row.invariant.1 clean)) in
    let all = c.loop-row.invariant.2 clean c.loop-row.conn (Ok c.loop-row.last)
    (each_ended g.S.Store c.deref-row-items.result.now c.loop-row.row-index c.loop-row.last c.loop-row.conn
    (omega (arith, c.loop-row-test.false, c.loop-row.auto.row-index-end))) in
    inr (c.select_tests.new.conn, c.in-Ok.rows.items, shown, rw c.deref-row-items.ensures.value at all)
