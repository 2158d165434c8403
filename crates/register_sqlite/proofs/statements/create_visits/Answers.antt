use Rattle.register_sqlite.proofs.statements.create_visits.Goals as goal

pub returns-clause-runs : goal.returns-clause-runs
returns-clause-runs g c clean = c.execute.ensures.runs clean

pub returns-clause-follows : goal.returns-clause-follows
returns-clause-follows g c = (c.execute.ensures.survives.clean, c.execute.ensures.survives.limit)
