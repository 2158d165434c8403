use Rattle.coincidence.proofs.PlainlyFound.{heard_words}
use Rattle.coincidence.proofs.changed_blocks.heard_in.Goals as goal

pub returns-clause-heard : goal.returns-clause-heard
returns-clause-heard c =
    heard_words c.args.block.now c.joined-alarms.result c.joined.result c.joined-alarms.type_inv c.joined-alarms.ensures c.joined.ensures
