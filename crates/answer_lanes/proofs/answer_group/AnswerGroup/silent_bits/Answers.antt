use Rattle.std.proofs.Common.{◌∙◌}
use Rattle.answer_lanes.proofs.MaskBits.{silent_is}
use Rattle.answer_lanes.proofs.answer_group.AnswerGroup.silent_bits.Goals as goal

pub returns : goal.returns
returns c k = c.without.ensures k ∙ silent_is c.args.self.now.alarms c.args.self.now.silents k
