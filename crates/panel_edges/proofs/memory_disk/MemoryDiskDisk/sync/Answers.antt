use Rattle.std.proofs.Common.{◌∙◌, sym}
use Rattle.panel_edges.specs.DiskLaws.{sync_only, sync_stays, time_more}
use Rattle.panel_edges.specs.DiskLogs.{Sync}
use Rattle.panel_edges.proofs.memory_disk.MemoryDiskDisk.sync.Goals as goal

pub returns-clause-durable : goal.returns-clause-durable
returns-clause-durable c file left =
    let done = c.note_sync.ensures in
    sync_only _ _ _ _ done.logged.start c.args.self.now.bytes.items c.args.self.now.whole done.logged.log file left ∙ sym done.bytes

pub returns-clause-crash : goal.returns-clause-crash
returns-clause-crash c = let done = c.note_sync.ensures in sync_stays _ _ _ _ done.logged.start done.logged.log

pub returns-clause-time : goal.returns-clause-time
returns-clause-time c = let done = c.note_sync.ensures in time_more _ _ _ _ Sync done.logged.start done.logged.log
