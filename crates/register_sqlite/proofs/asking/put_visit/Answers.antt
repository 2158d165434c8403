use Rattle.std.proofs.Common.{inl, inr, refl}
use Rattle.sqlite.specs.Held.{state}
use Rattle.service_keepers.specs.Keeping.{PutsVisit}
use Rattle.service_keepers.specs.Rows.{visit_row}
use Rattle.register_sqlite.specs.declared.trouble.Trouble.TheVariants.{Text}
use Rattle.register_sqlite.specs.Texts.{insert_visit_text, visit_params}
use Rattle.register_sqlite.proofs.Asked.{put_fails, visit_changes}
use Rattle.register_sqlite.specs.Faults.{IsWantOfMemory}
use Rattle.register_sqlite.proofs.Putting.{visit_wants}
use Rattle.register_sqlite.proofs.Wanting.{steadily}
use Rattle.register_sqlite.proofs.asking.put_visit.Goals as goal

pub returns-in-Ok-clause-register : goal.returns-in-Ok-clause-register
returns-in-Ok-clause-register g c steady register =
    let it = steadily g.S.Store steady c.args.conn.now c.insert_visit.new.conn c.insert_visit.ensures.follows in
    visit_changes (state g.S.Store c.args.conn.now) (state g.S.Store c.insert_visit.new.conn) it register (visit_row c.args.visit.now) c.insert_visit.ensures.of_visit c.in-Ok.field-0
    (rw c.in-Ok.is at (c.insert_visit.ensures.runs (steady c.insert_visit.new.conn).0))

pub returns-in-Err-clause-register : goal.returns-in-Err-clause-register
returns-in-Err-clause-register g c steady register =
    let old = state g.S.Store c.args.conn.now in
    let new = state g.S.Store c.insert_visit.new.conn in
    let it = steadily g.S.Store steady c.args.conn.now c.insert_visit.new.conn c.insert_visit.ensures.follows in
    let h = rw c.in-Err.is at (c.insert_visit.ensures.runs (steady c.insert_visit.new.conn).0) in
    put_fails old new it register (PutsVisit (visit_row c.args.visit.now)) (λ kept. IsWantOfMemory) insert_visit_text (visit_params (visit_row c.args.visit.now)) c.in-Err.error (Text c.in-Err.error) h
    (visit_wants old new it register (visit_row c.args.visit.now) c.insert_visit.ensures.of_visit c.in-Err.error h)

pub returns-in-Ok-clause-asked : goal.returns-in-Ok-clause-asked
returns-in-Ok-clause-asked g c clean = inr (c.in-Ok.field-0, rw c.in-Ok.is at (c.insert_visit.ensures.runs clean), refl)

pub returns-in-Err-clause-asked : goal.returns-in-Err-clause-asked
returns-in-Err-clause-asked g c clean = inl (c.in-Err.error, rw c.in-Err.is at (c.insert_visit.ensures.runs clean), refl)
