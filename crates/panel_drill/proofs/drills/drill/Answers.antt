use Rattle.std.proofs.Common.{◌∙◌, ap}
use Rattle.panel_rules.proofs.RecordRuns.{records_are_runs}
use Rattle.drill_record.specs.Records.{drill_ticks}
use Rattle.panel_drill.specs.Drills.{summary_line}
use Rattle.panel_drill.specs.Running.{drill_moments}
use Rattle.panel_drill.proofs.Ticks.{ordered}
use Rattle.panel_drill.proofs.drills.drill.Goals as goal

pub summary_of-requires : goal.summary_of-requires
summary_of-requires c =
    let site = c.args.site in
    let seed = c.args.seed in
    let ticks = c.args.ticks in
    record {
      site = site;
      before = drill_moments site seed ticks;
      stands = (c.run.ensures site seed c.in_ok-running.ensures).system;
      run = (records_are_runs site.panels (drill_ticks site seed ticks) (ordered site seed ticks)).0;
    }

pub returns : goal.returns
returns c =
    let site = c.args.site in
    let seed = c.args.seed in
    let ticks = c.args.ticks in
    let at = c.run.ensures site seed c.in_ok-running.ensures in
    let runs = (records_are_runs site.panels (drill_ticks site seed ticks) (ordered site seed ticks)).0 in
    c.summary_line.ensures ∙ ap (summary_line seed ticks) (c.summary_of.ensures site (drill_moments site seed ticks) at.system runs)
