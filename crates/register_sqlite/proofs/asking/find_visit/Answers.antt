use Rattle.std.proofs.Common.{◌≡◌, inl, inr, ap, ◌∙◌, refl}
use Rattle.sqlite.specs.Held.{state}
use Rattle.std.specs.Prelude.{option_map, slice_get}
use Rattle.service_keepers.specs.Rows.{visit_row}
use Rattle.service_keepers.specs.Tables.{visit_numbered}
use Rattle.register_sqlite.specs.declared.trouble.Trouble.TheVariants.{Text}
use Rattle.register_sqlite.specs.Texts.{number_params, select_visit_text}
use Rattle.register_sqlite.proofs.Asked.{ask_fails, none_answered, row_answered, visit_answered}
use Rattle.register_sqlite.proofs.Reading.{select_visit_wants}
use Rattle.register_sqlite.proofs.Wanting.{steadily}
use Rattle.register_sqlite.proofs.FoundRows.{none_read, value_read, visit_read}
use Rattle.register_sqlite.proofs.asking.find_visit.Goals as goal

pub returns-in-Some-visit_of-clause-register : goal.returns-in-Some-visit_of-clause-register
returns-in-Some-visit_of-clause-register g c steady register =
    let held = steady c.select_visit.new.conn in
    let it = steadily g.S.Store steady c.args.conn.now c.select_visit.new.conn c.select_visit.ensures.follows in
    let first = rw c.in-Some.is at c.first.ensures.value in
    let some = rw c.in-Some-visit_of.is at c.visit_of.ensures.some in
    visit_answered (state g.S.Store c.args.conn.now) (state g.S.Store c.select_visit.new.conn) it register c.args.number c.in-Ok.rows.items
    (rw c.in-Ok.is at (c.select_visit.ensures.ok held.0)) c.in-Some.row.now c.in-Some-visit_of.visit (first ∙ ap (λ xs. slice_get xs 0) c.deref.ensures.value) some.0 some.1 some.2

pub returns-in-Some-clause-register : goal.returns-in-Some-clause-register
returns-in-Some-clause-register g c steady register =
    let held = steady c.select_visit.new.conn in
    let it = steadily g.S.Store steady c.args.conn.now c.select_visit.new.conn c.select_visit.ensures.follows in
    let first = rw c.in-Some.is at c.first.ensures.value in
    absurd (row_answered (state g.S.Store c.args.conn.now) (state g.S.Store c.select_visit.new.conn) it register c.args.number c.in-Ok.rows.items
    (rw c.in-Ok.is at (c.select_visit.ensures.ok held.0)) c.in-Some.row.now (first ∙ ap (λ xs. slice_get xs 0) c.deref.ensures.value)
    (λ day engineer. c.visit_of.ensures.none c.in-None-visit_of.is day engineer))

pub returns-in-Ok-clause-register : goal.returns-in-Ok-clause-register
returns-in-Ok-clause-register g c steady register =
    let held = steady c.select_visit.new.conn in
    let it = steadily g.S.Store steady c.args.conn.now c.select_visit.new.conn c.select_visit.ensures.follows in
    let first = rw c.in-None.is at c.first.ensures.value in
    none_answered (state g.S.Store c.args.conn.now) (state g.S.Store c.select_visit.new.conn) it register c.args.number c.in-Ok.rows.items
    (rw c.in-Ok.is at (c.select_visit.ensures.ok held.0)) (first ∙ ap (λ xs. slice_get xs 0) c.deref.ensures.value)

pub returns-clause-register : goal.returns-clause-register
returns-clause-register g c steady register =
    let held = steady c.select_visit.new.conn in
    let old = state g.S.Store c.args.conn.now in
    let new = state g.S.Store c.select_visit.new.conn in
    let it = steadily g.S.Store steady c.args.conn.now c.select_visit.new.conn c.select_visit.ensures.follows in
    let h = rw c.in-Err.is at (c.select_visit.ensures.err held.0) in
    ask_fails old new it register (λ visit kept. option_map visit_row visit ≡ visit_numbered c.args.number kept.visits) select_visit_text (number_params c.args.number)
    c.in-Err.error (Text c.in-Err.error) h (select_visit_wants old new it register c.args.number c.in-Err.error h)

-- ---- what is told

pub returns-in-Some-visit_of-clause-asked : goal.returns-in-Some-visit_of-clause-asked
returns-in-Some-visit_of-clause-asked g c clean =
    let first = rw c.in-Some.is at c.first.ensures.value in
    let some = rw c.in-Some-visit_of.is at c.visit_of.ensures.some in
    let shown = rw c.in-Ok.is at (c.select_visit.ensures.ok clean) in
    inr (
      c.in-Ok.rows.items,
      shown,
      visit_read c.args.number c.in-Ok.rows.items c.in-Some.row.now c.in-Some-visit_of.visit
          (first ∙ ap (λ xs. slice_get xs 0) c.deref.ensures.value) some.0 (some.1, some.2),
    )

pub returns-in-Some-clause-asked : goal.returns-in-Some-clause-asked
returns-in-Some-clause-asked g c clean =
    let first = rw c.in-Some.is at c.first.ensures.value in
    let shown = rw c.in-Ok.is at (c.select_visit.ensures.ok clean) in
    inr (
      c.in-Ok.rows.items,
      shown,
      value_read c.args.number c.in-Ok.rows.items c.in-Some.row.now (first ∙ ap (λ xs. slice_get xs 0) c.deref.ensures.value)
          (λ day engineer has. c.visit_of.ensures.none c.in-None-visit_of.is day engineer has.0 has.1),
    )

pub returns-in-Ok-clause-asked : goal.returns-in-Ok-clause-asked
returns-in-Ok-clause-asked g c clean =
    let first = rw c.in-None.is at c.first.ensures.value in
    let shown = rw c.in-Ok.is at (c.select_visit.ensures.ok clean) in
    inr (c.in-Ok.rows.items, shown, none_read c.args.number c.in-Ok.rows.items (first ∙ ap (λ xs. slice_get xs 0) c.deref.ensures.value))

pub returns-clause-asked : goal.returns-clause-asked
returns-clause-asked g c clean = inl (c.in-Err.error, rw c.in-Err.is at (c.select_visit.ensures.err clean), refl)
