use Rattle.std.proofs.Common.{inl, inr, refl}
use Rattle.sqlite.specs.Held.{state}
use Rattle.service_keepers.specs.Keeping.{PutsTest}
use Rattle.service_keepers.specs.Rows.{test_of}
use Rattle.register_sqlite.specs.declared.trouble.Trouble.TheVariants.{Text}
use Rattle.register_sqlite.specs.Texts.{insert_test_text, test_params}
use Rattle.register_sqlite.proofs.Asked.{put_fails, test_changes}
use Rattle.register_sqlite.specs.Faults.{RefusesTest}
use Rattle.register_sqlite.proofs.Putting.{test_wants}
use Rattle.register_sqlite.proofs.Wanting.{steadily}
use Rattle.register_sqlite.proofs.asking.put_test.Goals as goal

pub returns-in-Ok-clause-register : goal.returns-in-Ok-clause-register
returns-in-Ok-clause-register g c steady register =
    let it = steadily g.S.Store steady c.args.conn.now c.insert_test.new.conn c.insert_test.ensures.follows in
    test_changes (state g.S.Store c.args.conn.now) (state g.S.Store c.insert_test.new.conn) it register (test_of c.args.visit c.args.point.now) c.insert_test.ensures.of_test c.in-Ok.field-0
    (rw c.in-Ok.is at (c.insert_test.ensures.runs (steady c.insert_test.new.conn).0))

pub returns-in-Err-clause-register : goal.returns-in-Err-clause-register
returns-in-Err-clause-register g c steady register =
    let old = state g.S.Store c.args.conn.now in
    let new = state g.S.Store c.insert_test.new.conn in
    let it = steadily g.S.Store steady c.args.conn.now c.insert_test.new.conn c.insert_test.ensures.follows in
    let h = rw c.in-Err.is at (c.insert_test.ensures.runs (steady c.insert_test.new.conn).0) in
    put_fails old new it register (PutsTest (test_of c.args.visit c.args.point.now)) (λ kept. RefusesTest kept.tests) insert_test_text
    (test_params (test_of c.args.visit c.args.point.now)) c.in-Err.error (Text c.in-Err.error) h
    (test_wants old new it register (test_of c.args.visit c.args.point.now) c.insert_test.ensures.of_test c.in-Err.error h)

pub returns-in-Ok-clause-asked : goal.returns-in-Ok-clause-asked
returns-in-Ok-clause-asked g c clean = inr (c.in-Ok.field-0, rw c.in-Ok.is at (c.insert_test.ensures.runs clean), refl)

pub returns-in-Err-clause-asked : goal.returns-in-Err-clause-asked
returns-in-Err-clause-asked g c clean = inl (c.in-Err.error, rw c.in-Err.is at (c.insert_test.ensures.runs clean), refl)
