use Rattle.sqlite.specs.Files.{over_files}
use Rattle.register_sqlite.specs.Asked.{LooksUpDays}
use Rattle.register_sqlite.proofs.FoundRows.{asks_none, asks_then}
use Rattle.register_sqlite.proofs.file_keeper.TableKeeper+FileStore+File.ask_last_day.Goals as goal

pub returns-in-Some-clause-asks : goal.returns-in-Some-clause-asks
returns-in-Some-clause-asks c =
    asks_then over_files (LooksUpDays over_files c.args.point.now.bytes)
    c.args.self.now.database c.open.new.self.database c.in-Some.conn c.last_day.new.conn c.last_day.result c.in-Ok.ensures.opens c.in-Some.is
    c.last_day.ensures.follows (λ clean. c.last_day.ensures.asked clean)

pub returns-in-Err-clause-asks : goal.returns-in-Err-clause-asks
returns-in-Err-clause-asks c =
    asks_none over_files (LooksUpDays over_files c.args.point.now.bytes)
    c.args.self.now.database c.open.new.self.database c.in-Err.trouble c.in-Err.ensures.opens
