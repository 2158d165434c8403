use Rattle.std.proofs.Common.{rules, subst}
use Rattle.std.specs.Prelude.{IfErr, IfOk}
use Rattle.sqlite.specs.Held.{state}
use Rattle.sqlite.specs.State.{FailsToQuery, Shown}
use Rattle.register_sqlite.specs.Texts.{select_tests_text}
use Rattle.register_sqlite.proofs.statements.select_tests.Goals as goal

pub returns-clause-ok : goal.returns-clause-ok
returns-clause-ok g c clean =
    let old = state g.S.Store c.args.conn.now in
    let new = state g.S.Store c.query_all.new.self in
    subst (λ params. IfOk c.query_all.result (λ rows. Shown select_tests_text params old new rows.items)) (search rules) (c.query_all.ensures.ok clean)

pub returns-clause-err : goal.returns-clause-err
returns-clause-err g c clean =
    let old = state g.S.Store c.args.conn.now in
    let new = state g.S.Store c.query_all.new.self in
    subst (λ params. IfErr c.query_all.result (FailsToQuery select_tests_text params old new)) (search rules) (c.query_all.ensures.err clean)

pub returns-clause-follows : goal.returns-clause-follows
returns-clause-follows g c = (c.query_all.ensures.survives.clean, c.query_all.ensures.survives.limit)
