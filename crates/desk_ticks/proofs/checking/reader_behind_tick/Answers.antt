use Rattle.desk_ticks.proofs.checking.reader_behind_tick.Goals as goal

pub begin-requires-clause-fresh : goal.begin-requires-clause-fresh
begin-requires-clause-fresh c = c.new-reader.ensures c.args.site.now
