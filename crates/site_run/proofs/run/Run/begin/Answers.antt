use Rattle.std.proofs.Common.{arith}
use Rattle.panel_rules.specs.Moments.{moments}
use Rattle.panel_rules.proofs.RecordRuns.{records_are_runs}
use Rattle.run_text.proofs.TickTimes.{tick_moments}
use Rattle.site_run.proofs.Stood.{begun}
use Rattle.site_run.proofs.run.Run.begin.Goals as goal

pub begin-requires : goal.begin-requires
begin-requires c =
    let r = c.requires in
    record {
      site = r.site;
      kept = r.kept;
      before = moments r.ticks;
      stands = r.stands.system;
      run = records_are_runs r.site.panels r.ticks r.stands.ordered;
    }

pub returns-clause-opens : goal.returns-clause-opens
returns-clause-opens c site kept ticks h tick few short =
    let count = tick_moments ticks in
    begun site kept ticks c.args.self.now c.begin.new.self h
    (c.begin.ensures.begins site kept (moments ticks) h.system (omega (arith, tick, count)) (records_are_runs site.panels ticks h.ordered))
    (c.begin.ensures.marks site kept (moments ticks) h.system (records_are_runs site.panels ticks h.ordered)) (omega (arith, tick, few)) short
