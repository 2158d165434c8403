use Rattle.std.proofs.Common.{◌/◌, length, take_all, arith}
use Rattle.panel_edges.specs.DiskLaws.{front_torn, overwritten_holds, time_more, write_follows}
use Rattle.panel_edges.specs.DiskLogs.{Write}
use Rattle.panel_edges.proofs.memory_disk.MemoryDiskDisk.write_at.Goals as goal

pub returns-then-is_listed-clause-err : goal.returns-then-is_listed-clause-err
returns-then-is_listed-clause-err c =
    rw c.write.ensures.bytes (front_torn c.args.at c.args.bytes.now (length c.args.bytes.now / 2) c.args.self.now.bytes.items)

pub returns-then-is_listed-clause-crash : goal.returns-then-is_listed-clause-crash
returns-then-is_listed-clause-crash c = let logged = c.write.ensures.logged in
    write_follows _ _ _ _ logged.start c.args.at c.args.bytes.now _ logged.log

pub returns-then-is_listed-clause-time : goal.returns-then-is_listed-clause-time
returns-then-is_listed-clause-time c = let logged = c.write.ensures.logged in
    time_more _ _ _ _ (Write c.args.at c.args.bytes.now (length c.args.bytes.now / 2)) logged.start logged.log

pub returns-clause-ok : goal.returns-clause-ok
returns-clause-ok c =
    let bytes = c.args.bytes.now in
    rw (c.write-2.ensures.bytes, take_all (length bytes) bytes (omega arith)) (overwritten_holds c.args.at bytes c.args.self.now.bytes.items)

pub returns-clause-crash : goal.returns-clause-crash
returns-clause-crash c = let logged = c.write-2.ensures.logged in write_follows _ _ _ _ logged.start c.args.at c.args.bytes.now _ logged.log

pub returns-clause-time : goal.returns-clause-time
returns-clause-time c = let logged = c.write-2.ensures.logged in
    time_more _ _ _ _ (Write c.args.at c.args.bytes.now (length c.args.bytes.now)) logged.start logged.log
