use Rattle.std.proofs.Common.{◌∙◌}
use Rattle.desk_runs.proofs.Running.{begun_with, may_tell_begun, ran_block}
use Rattle.site_run.specs.Outside.{disks_of}
use Rattle.desk_runs.proofs.ticks.run_block.Goals as goal

pub begin-requires : goal.begin-requires
begin-requires g c = let r = c.requires.may in record { site = r.site; kept = r.kept; ticks = r.ticks; stands = r.with.stands }

pub tell_lines-requires : goal.tell_lines-requires
tell_lines-requires g c =
    let r = c.requires.may in
    record {
      may =
          may_tell_begun r.site r.kept r.ticks c.args.tick c.args.block.now c.args.run.now c.begin.new.self r.with c.begin.ensures.opens
          c.behind_first_line.result.now c.behind_first_line.ensures;
    }

pub make_turns-requires-clause-may : goal.make_turns-requires-clause-may
make_turns-requires-clause-may g c =
    let r = c.requires.may in
    let with = begun_with r.site r.kept r.ticks c.args.tick c.args.block.now c.args.run.now c.begin.new.self r.with c.begin.ensures.opens
    c.behind_first_line.result.now c.behind_first_line.ensures in
    let stands = (c.tell_lines.ensures.tells r.site r.kept r.ticks with).stands in
    record { site = r.site; kept = r.kept; p = _; stands = stands; open_is = stands.open_is }

pub returns-clause-runs : goal.returns-clause-runs
returns-clause-runs g c site kept ticks may =
    let with = begun_with site kept ticks c.args.tick c.args.block.now c.args.run.now c.begin.new.self may c.begin.ensures.opens
    c.behind_first_line.result.now c.behind_first_line.ensures in
    let disks = disks_of g.D.Disk.honest g.D.Disk.images g.D.Disk.moment g.D.Disk.left_since c.args.disk.now c.make_turns.new.disk in
    ran_block site kept ticks c.args.tick c.args.block.now disks c.args.run.now c.tell_lines.new.run c.make_turns.new.self may
    c.behind_first_line.result.now c.behind_first_line.ensures (c.tell_lines.ensures.tells site kept ticks with)
    (c.tell_lines.ensures.journal ∙ c.begin.ensures.same) (c.make_turns.ensures.makes site kept _)
