use Rattle.std.proofs.Common.{sym, ◌∙◌}
use Rattle.sqlite.specs.Files.{over_files}
use Rattle.register_sqlite.proofs.FoundRows.{newly_open, not_made}
use Rattle.register_sqlite.proofs.file_keeper.TableKeeper+FileStore+File.open.Goals as goal

pub returns-in-Ok-make_tables-clause-opens : goal.returns-in-Ok-make_tables-clause-opens
returns-in-Ok-make_tables-clause-opens c =
    newly_open over_files c.args.self.now.database c.in-Ok.conn c.make_tables.new.conn (sym c.is_some.ensures ∙ c.if-is_some.false) (λ clean. c.in-Ok.ensures.opened clean)
    c.make_tables.ensures.follows (λ clean. c.in-Ok-make_tables.ensures.asked clean)

pub returns-in-Err-make_tables-clause-opens : goal.returns-in-Err-make_tables-clause-opens
returns-in-Err-make_tables-clause-opens c =
    not_made over_files c.args.self.now.database c.in-Ok.conn c.make_tables.new.conn c.in-Err-make_tables.trouble (sym c.is_some.ensures ∙ c.if-is_some.false)
    (λ clean. c.in-Ok.ensures.opened clean) c.make_tables.ensures.follows (λ clean. c.in-Err-make_tables.ensures.asked clean)
