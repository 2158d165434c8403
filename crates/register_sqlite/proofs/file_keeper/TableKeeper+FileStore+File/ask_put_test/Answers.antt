use Rattle.service_keepers.specs.Rows.{test_of}
use Rattle.sqlite.specs.Files.{file_state, over_files}
use Rattle.register_sqlite.specs.Asked.{RunsText}
use Rattle.register_sqlite.specs.Texts.{insert_test_text, test_params}
use Rattle.register_sqlite.proofs.FoundRows.{asks_none, asks_then}
use Rattle.register_sqlite.proofs.file_keeper.TableKeeper+FileStore+File.ask_put_test.Goals as goal

pub returns-in-Some-clause-asks : goal.returns-in-Some-clause-asks
returns-in-Some-clause-asks c =
    asks_then over_files (λ old new answer. RunsText insert_test_text (test_params (test_of c.args.visit c.args.point.now)) (file_state old) (file_state new) answer)
    c.args.self.now.database c.open.new.self.database c.in-Some.conn c.put_test.new.conn c.put_test.result c.in-Ok.ensures.opens c.in-Some.is
    c.put_test.ensures.follows (λ clean. c.put_test.ensures.asked clean)

pub returns-in-Err-clause-asks : goal.returns-in-Err-clause-asks
returns-in-Err-clause-asks c =
    asks_none over_files (λ old new answer. RunsText insert_test_text (test_params (test_of c.args.visit c.args.point.now)) (file_state old) (file_state new) answer)
    c.args.self.now.database c.open.new.self.database c.in-Err.trouble c.in-Err.ensures.opens
