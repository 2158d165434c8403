use Rattle.std.proofs.Common.{rules, subst, length, ◌≤◌}
use Rattle.sqlite.specs.Held.{state}
use Rattle.sqlite.specs.State.{Executes}
use Rattle.register_sqlite.specs.Texts.{insert_test_text}
use Rattle.register_sqlite.proofs.statements.insert_test.Goals as goal

pub returns-clause-runs : goal.returns-clause-runs
returns-clause-runs g c clean =
    subst (λ params. Executes insert_test_text params (state g.S.Store c.args.conn.now) (state g.S.Store c.execute.new.self) c.execute.result) (search rules)
    (c.execute.ensures.runs clean)

pub returns-clause-of_test : goal.returns-clause-of_test
returns-clause-of_test g c = record {
  visit = search rules;
  short = subst (λ text. length text ≤ 16) c.as_str.ensures.value c.as_str.ensures.fits;
}

pub returns-clause-follows : goal.returns-clause-follows
returns-clause-follows g c = (c.execute.ensures.survives.clean, c.execute.ensures.survives.limit)
