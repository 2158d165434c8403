use Rattle.std.proofs.Common.{refl}
use Rattle.panel_edges.proofs.Logging.{write_logged, write_tight, write_whole}
use Rattle.panel_edges.proofs.memory_disk.MemoryDisk.write.Goals as goal

pub invariant_of-self-clause-whole : goal.invariant_of-self-clause-whole
invariant_of-self-clause-whole c =
    let disk = c.args.self.now in
    write_whole _ _ _ _ _ _ _ c.args.bytes.now c.push_reserved.ensures.items c.append_reserved.ensures.items refl _ _ _ disk.tight disk.whole
    c.overwrite_reserved.ensures.items

pub invariant_of-self-clause-tight : goal.invariant_of-self-clause-tight
invariant_of-self-clause-tight c =
    write_tight _ _ _ _ _ _ _ c.args.bytes.now c.push_reserved.ensures.items c.append_reserved.ensures.items refl c.args.self.now.tight

pub returns-clause-logged : goal.returns-clause-logged
returns-clause-logged c =
    record {
      start = refl;
      log =
          write_logged _ _ _ _ _ _ _ c.args.bytes.now c.push_reserved.ensures.items c.append_reserved.ensures.items refl c.args.self.now.tight;
    }
