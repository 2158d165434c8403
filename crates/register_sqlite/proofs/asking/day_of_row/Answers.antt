use Rattle.std.proofs.Common.{◌≡◌, inl, inr, Ok, Err, refl, ap, ℕ, Option}
use Rattle.sqlite.specs.Held.{state}
use Rattle.std.specs.Prelude.{option_map}
use Rattle.service_keepers.specs.Rows.{visit_row}
use Rattle.service_keepers.specs.Tables.{visit_numbered}
use Rattle.service_keepers.specs.declared.visit.Visit.{Visit}
use Rattle.register_sqlite.specs.Days.{day_shown}
use Rattle.register_sqlite.proofs.Asked.{day_answered, refused_too}
use Rattle.register_sqlite.proofs.asking.day_of_row.Goals as goal

pub returns-in-None-clause-register : goal.returns-in-None-clause-register
returns-in-None-clause-register g c steady register has = absurd (c.number_at.ensures.none c.in-None.is has.0 has.1)

pub returns-in-Ok-clause-register : goal.returns-in-Ok-clause-register
returns-in-Ok-clause-register g c steady register has =
    let is = rw c.in-Some.is at c.number_at.ensures.some in
    let found = rw c.in-Ok.is at (c.find_visit.ensures.register steady register) in
    rw c.day_of.ensures (day_answered (state g.S.Store c.args.conn.now) (state g.S.Store c.find_visit.new.conn) c.in-Some.number c.args.row.now c.in-Ok.visit is found)

pub returns-in-Err-clause-register : goal.returns-in-Err-clause-register
returns-in-Err-clause-register g c steady register has =
    let found = rw c.in-Err.is at (c.find_visit.ensures.register steady register) in
    refused_too (λ (visit : Option Visit) kept. option_map visit_row visit ≡ visit_numbered c.in-Some.number kept.visits)
    (λ (day : Option ℕ) kept. day ≡ day_shown kept.visits c.args.row.now)
    (state g.S.Store c.args.conn.now) (state g.S.Store c.find_visit.new.conn) c.in-Err.trouble found

-- ---- what is told

pub returns-in-None-clause-asked : goal.returns-in-None-clause-asked
returns-in-None-clause-asked g c clean = inl (refl, refl, λ number. c.number_at.ensures.none c.in-None.is number)

pub returns-in-Ok-clause-asked : goal.returns-in-Ok-clause-asked
returns-in-Ok-clause-asked g c clean =
    let is = rw c.in-Some.is at c.number_at.ensures.some in
    let found = rw c.in-Ok.is at (c.find_visit.ensures.asked clean) in
    inr (c.in-Some.number, is, Ok c.in-Ok.visit, found, ap Ok c.day_of.ensures)

pub returns-in-Err-clause-asked : goal.returns-in-Err-clause-asked
returns-in-Err-clause-asked g c clean =
    let is = rw c.in-Some.is at c.number_at.ensures.some in
    let found = rw c.in-Err.is at (c.find_visit.ensures.asked clean) in
    inr (c.in-Some.number, is, Err c.in-Err.trouble, found, refl)
