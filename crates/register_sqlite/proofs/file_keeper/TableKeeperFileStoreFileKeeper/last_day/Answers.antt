use Rattle.register_sqlite.proofs.file_keeper.TableKeeperFileStoreFileKeeper.last_day.Goals as goal

pub returns-clause-asked : goal.returns-clause-asked
returns-clause-asked c = (c.ask_last_day-answer.result, c.ask_last_day-answer.ensures.asks, c.settle.ensures.told)
