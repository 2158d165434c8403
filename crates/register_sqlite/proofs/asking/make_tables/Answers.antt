use Rattle.std.proofs.Common.{inl, inr, refl, ◌∙◌}
use Rattle.sqlite.specs.Held.{state}
use Rattle.register_sqlite.proofs.Created.{tests_created, visits_created}
use Rattle.register_sqlite.proofs.Making.{create_tests_wants, create_visits_wants}
use Rattle.register_sqlite.proofs.Wanting.{steadily}
use Rattle.register_sqlite.proofs.FoundRows.{clean_before}
use Rattle.register_sqlite.proofs.asking.make_tables.Goals as goal

pub returns-in-Ok-create_tests-clause-made : goal.returns-in-Ok-create_tests-clause-made
returns-in-Ok-create_tests-clause-made g c steady nothing =
    let old = state g.S.Store c.args.conn.now in
    let mid = state g.S.Store c.create_visits.new.conn in
    let new = state g.S.Store c.create_tests.new.conn in
    let first = visits_created old mid c.in-Ok.field-0 nothing.0 nothing.1 (c.create_visits.ensures.follows.1 ∙ nothing.2)
    (rw c.in-Ok.is at (c.create_visits.ensures.runs (steady c.create_visits.new.conn).0)) in
    tests_created mid new c.in-Ok-create_tests.field-0 first c.create_tests.ensures.follows.1
    (rw c.in-Ok-create_tests.is at (c.create_tests.ensures.runs (steady c.create_tests.new.conn).0))

-- ---- what is refused

pub returns-in-Err-create_tests-clause-memory : goal.returns-in-Err-create_tests-clause-memory
returns-in-Err-create_tests-clause-memory g c steady nothing =
    let old = state g.S.Store c.args.conn.now in
    let mid = state g.S.Store c.create_visits.new.conn in
    let new = state g.S.Store c.create_tests.new.conn in
    let first = visits_created old mid c.in-Ok.field-0 nothing.0 nothing.1 (c.create_visits.ensures.follows.1 ∙ nothing.2)
    (rw c.in-Ok.is at (c.create_visits.ensures.runs (steady c.create_visits.new.conn).0)) in
    create_tests_wants mid new (steadily g.S.Store steady c.create_visits.new.conn c.create_tests.new.conn c.create_tests.ensures.follows) first.schema
    c.in-Err-create_tests.error (rw c.in-Err-create_tests.is at (c.create_tests.ensures.runs (steady c.create_tests.new.conn).0))

pub returns-in-Err-clause-memory : goal.returns-in-Err-clause-memory
returns-in-Err-clause-memory g c steady nothing =
    create_visits_wants (state g.S.Store c.args.conn.now) (state g.S.Store c.create_visits.new.conn)
    (steadily g.S.Store steady c.args.conn.now c.create_visits.new.conn c.create_visits.ensures.follows) nothing.0 c.in-Err.error
    (rw c.in-Err.is at (c.create_visits.ensures.runs (steady c.create_visits.new.conn).0))

-- ---- what is told

pub returns-in-Ok-create_tests-clause-asked : goal.returns-in-Ok-create_tests-clause-asked
returns-in-Ok-create_tests-clause-asked g c clean =
    let first = rw c.in-Ok.is at (c.create_visits.ensures.runs (clean_before (state g.S.Store c.create_visits.new.conn) (state g.S.Store c.create_tests.new.conn)
    c.create_tests.ensures.follows clean)) in
    inr (c.create_visits.new.conn, c.in-Ok.field-0, first, inr (c.in-Ok-create_tests.field-0, rw c.in-Ok-create_tests.is at (c.create_tests.ensures.runs clean), refl))

pub returns-in-Err-create_tests-clause-asked : goal.returns-in-Err-create_tests-clause-asked
returns-in-Err-create_tests-clause-asked g c clean =
    let first = rw c.in-Ok.is at (c.create_visits.ensures.runs (clean_before (state g.S.Store c.create_visits.new.conn) (state g.S.Store c.create_tests.new.conn)
    c.create_tests.ensures.follows clean)) in
    inr (c.create_visits.new.conn, c.in-Ok.field-0, first, inl (c.in-Err-create_tests.error, rw c.in-Err-create_tests.is at (c.create_tests.ensures.runs clean), refl))

pub returns-in-Err-clause-asked : goal.returns-in-Err-clause-asked
returns-in-Err-clause-asked g c clean = inl (c.in-Err.error, rw c.in-Err.is at (c.create_visits.ensures.runs clean), refl)
