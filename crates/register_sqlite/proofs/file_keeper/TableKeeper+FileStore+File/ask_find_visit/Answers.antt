use Rattle.sqlite.specs.Files.{file_state, over_files}
use Rattle.register_sqlite.specs.Asked.{LooksUp}
use Rattle.register_sqlite.proofs.FoundRows.{asks_none, asks_then}
use Rattle.register_sqlite.proofs.file_keeper.TableKeeper+FileStore+File.ask_find_visit.Goals as goal

pub returns-in-Some-clause-asks : goal.returns-in-Some-clause-asks
returns-in-Some-clause-asks c =
    asks_then over_files (λ old new answer. LooksUp c.args.number (file_state old) (file_state new) answer)
    c.args.self.now.database c.open.new.self.database c.in-Some.conn c.find_visit.new.conn c.find_visit.result c.in-Ok.ensures.opens c.in-Some.is
    c.find_visit.ensures.follows (λ clean. c.find_visit.ensures.asked clean)

pub returns-in-Err-clause-asks : goal.returns-in-Err-clause-asks
returns-in-Err-clause-asks c =
    asks_none over_files (λ old new answer. LooksUp c.args.number (file_state old) (file_state new) answer)
    c.args.self.now.database c.open.new.self.database c.in-Err.trouble c.in-Err.ensures.opens
