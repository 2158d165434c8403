use Rattle.answer_lanes.specs.Points.{finding_at}
use Rattle.answer_lanes.specs.Runs.{items_of}
use Rattle.panel_conditions.proofs.Runs.{run_tells}
use Rattle.panel_conditions.proofs.ZoneRuns.{run_of_none, run_of_nothing}
use Rattle.panel_conditions.proofs.zones.Zones.take_run.Goals as goal

pub returns-then-run-eq0-clause-watches : goal.returns-then-run-eq0-clause-watches
returns-then-run-eq0-clause-watches c = (run_of_nothing c.args.run.now c.args.self.now c.if-run-eq0.true).watches

pub returns-then-not-tells_any-clause-watches : goal.returns-then-not-tells_any-clause-watches
returns-then-not-tells_any-clause-watches c =
    (run_of_none c.args.run.now c.args.self.now (c.tells_any.ensures.none c.if-not-tells_any.true)).watches

pub returns-clause-watches : goal.returns-clause-watches
returns-clause-watches c = (c.take_told.ensures (items_of finding_at c.args.run.now) (run_tells c.args.run.now (c.tells_any.ensures.some c.if-not-tells_any.false))).watches

pub returns-clause-settled : goal.returns-clause-settled
returns-clause-settled c = (c.take_told.ensures (items_of finding_at c.args.run.now) (run_tells c.args.run.now (c.tells_any.ensures.some c.if-not-tells_any.false))).settled

pub returns-clause-moved : goal.returns-clause-moved
returns-clause-moved c = (c.take_told.ensures (items_of finding_at c.args.run.now) (run_tells c.args.run.now (c.tells_any.ensures.some c.if-not-tells_any.false))).moved
