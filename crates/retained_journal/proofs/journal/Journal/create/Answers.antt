use Rattle.retained_journal.proofs.NewFiles.{new_opens}
use Rattle.retained_journal.proofs.journal.Journal.create.Goals as goal

pub returns-clause-ok : goal.returns-clause-ok
returns-clause-ok g c honest file image =
    new_opens c.args.digest c.args.state.now file (c.in_ok-write_new.ensures.ok (c.len.ensures.honest.1 (c.sync.ensures.honest.1 honest)) file image)
    c.args.wide c.requires.narrow c.requires.counters
