use Rattle.std.proofs.Common.{refl}
use Rattle.panel_edges.proofs.Logging.{sync_logged, sync_tight, sync_whole}
use Rattle.panel_edges.proofs.memory_disk.MemoryDisk.note_sync.Goals as goal

pub invariant_of-self-clause-whole : goal.invariant_of-self-clause-whole
invariant_of-self-clause-whole c = sync_whole _ _ _ c.push_reserved.ensures.items _ _ c.args.self.now.whole

pub invariant_of-self-clause-tight : goal.invariant_of-self-clause-tight
invariant_of-self-clause-tight c = sync_tight _ _ _ c.push_reserved.ensures.items c.args.self.now.tight

pub returns-clause-logged : goal.returns-clause-logged
returns-clause-logged c = record { start = refl; log = sync_logged _ _ _ c.push_reserved.ensures.items }
