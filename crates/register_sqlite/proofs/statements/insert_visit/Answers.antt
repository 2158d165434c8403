use Rattle.std.proofs.Common.{rules, subst, length, ◌≤◌, IsUtf8}
use Rattle.sqlite.specs.Held.{state}
use Rattle.sqlite.specs.State.{Executes}
use Rattle.register_sqlite.specs.Texts.{insert_visit_text}
use Rattle.register_sqlite.proofs.statements.insert_visit.Goals as goal

pub returns-clause-runs : goal.returns-clause-runs
returns-clause-runs g c clean =
    subst (λ params. Executes insert_visit_text params (state g.S.Store c.args.conn.now) (state g.S.Store c.execute.new.self) c.execute.result) (search rules)
    (c.execute.ensures.runs clean)

pub returns-clause-of_visit : goal.returns-clause-of_visit
returns-clause-of_visit g c = record {
  number = search rules;
  day = search rules;
  text = subst IsUtf8 c.as_str.ensures.value c.as_str.utf8;
  short = subst (λ text. length text ≤ 16) c.as_str.ensures.value c.as_str.ensures.fits;
}

pub returns-clause-follows : goal.returns-clause-follows
returns-clause-follows g c = (c.execute.ensures.survives.clean, c.execute.ensures.survives.limit)
