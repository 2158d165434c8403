use Rattle.register_sqlite.proofs.file_keeper.TableKeeperFileStoreFileKeeper.put_test.Goals as goal

pub returns-clause-asked : goal.returns-clause-asked
returns-clause-asked c = (c.ask_put_test-answer.result, c.ask_put_test-answer.ensures.asks, c.settle.ensures.told)
