use Rattle.coincidence.proofs.BlockWords.{still_matching_in, still_quiet_in}
use Rattle.coincidence.proofs.decide.Decide.still_in.Goals as goal

pub returns-then-silents-eq0 : goal.returns-then-silents-eq0
returns-then-silents-eq0 c =
    still_quiet_in c.args.self.now c.args.block.now c.requires c.joined-alarms.result c.joined-silents.result c.resting_in-resting.result
    c.joined-alarms.type_inv c.joined-silents.type_inv c.joined-alarms.ensures c.joined-silents.ensures c.resting_in-resting.ensures c.if-silents-eq0.true

pub returns : goal.returns
returns c =
    still_matching_in c.args.self.now c.args.block.now c.requires c.joined-alarms.result c.joined-silents.result c.resting_in-resting.result
    c.joined-alarms.type_inv c.joined-silents.type_inv c.joined-alarms.ensures c.joined-silents.ensures c.resting_in-resting.ensures
    c.missing_in-missing.result c.missing_in-missing.ensures
