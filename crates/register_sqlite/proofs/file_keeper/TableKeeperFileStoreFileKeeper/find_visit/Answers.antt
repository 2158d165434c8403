use Rattle.register_sqlite.proofs.file_keeper.TableKeeperFileStoreFileKeeper.find_visit.Goals as goal

pub returns-clause-asked : goal.returns-clause-asked
returns-clause-asked c = (c.ask_find_visit-answer.result, c.ask_find_visit-answer.ensures.asks, c.settle.ensures.told)
