use Rattle.std.proofs.Common.{refl}
use Rattle.site_run.specs.Outside.{disks_of}
use Rattle.node_desk.proofs.Blocks.{begun_with, has_begun, may_begin_node, ran_block}
use Rattle.node_desk.proofs.node_run.NodeRun.run_block.Goals as goal

pub begin-requires : goal.begin-requires
begin-requires g c =
    let r = c.requires.may in
    may_begin_node r.site r.panel r.kept r.history r.ticks c.args.self.now r.with.runs

pub tell_lines-requires : goal.tell_lines-requires
tell_lines-requires g c =
    let r = c.requires.may in
    record {
      may = record {
        site = r.site;
        panel = r.panel;
        kept = r.kept;
        history = r.history;
        ticks = r.ticks;
        with = begun_with r.site r.panel r.kept r.history r.ticks c.args.tick c.args.block.now c.args.self.now r.with c.begin.new.self c.begin.ensures.begins
            c.behind_first_line.result.now c.behind_first_line.ensures;
      };
    }

pub make_turns-requires-clause-may : goal.make_turns-requires-clause-may
make_turns-requires-clause-may g c =
    let r = c.requires.may in
    let rest = c.behind_first_line.result.now in
    let is = c.behind_first_line.ensures in
    let with = begun_with r.site r.panel r.kept r.history r.ticks c.args.tick c.args.block.now c.args.self.now r.with c.begin.new.self c.begin.ensures.begins rest is in
    let lines = c.tell_lines.ensures.tells r.site r.panel r.kept r.history r.ticks with in
    record {
      site = r.site;
      panel = r.panel;
      kept = r.kept;
      history = r.history;
      ticks = r.ticks;
      events = _;
      begun = has_begun r.site r.panel r.kept r.history r.ticks c.args.tick c.args.block.now c.args.self.now r.with c.begin.new.self c.begin.ensures.begins rest is
          c.tell_lines.new.node lines _ refl refl refl refl refl refl;
    }

pub returns-clause-runs : goal.returns-clause-runs
returns-clause-runs g c site panel kept history ticks may =
    let tick = c.args.tick in
    let block = c.args.block.now in
    let old = c.args.self.now in
    let rest = c.behind_first_line.result.now in
    let is = c.behind_first_line.ensures in
    let begins = c.begin.ensures.begins in
    let disks = disks_of g.D.Disk.honest g.D.Disk.images g.D.Disk.moment g.D.Disk.left_since c.args.disk.now c.make_turns.new.disk in
    let with = begun_with site panel kept history ticks tick block old may c.begin.new.self begins rest is in
    let lines = c.tell_lines.ensures.tells site panel kept history ticks with in
    let begun = has_begun site panel kept history ticks tick block old may c.begin.new.self begins rest is c.tell_lines.new.node lines _ refl refl refl refl refl refl in
    ran_block site panel kept history ticks tick block old may c.begin.new.self begins rest is c.tell_lines.new.node lines disks _ c.make_turns.new.self refl refl
    (c.make_turns.ensures.makes site panel kept history ticks _ begun)
