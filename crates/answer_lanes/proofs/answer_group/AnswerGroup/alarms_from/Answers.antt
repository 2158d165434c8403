use Rattle.std.proofs.Common.{◌+◌, ◌&&◌, ◌∙◌, ap}
use Rattle.site_types.specs.Bits.{has_bit}
use Rattle.answer_lanes.proofs.MaskBits.{lt_is}
use Rattle.answer_lanes.proofs.answer_group.AnswerGroup.alarms_from.Goals as goal

pub returns : goal.returns
returns c k small =
    c.bits_within.ensures k ∙ ap (λ b. b && has_bit c.args.self.now.alarms (c.args.from + k)) (lt_is k 8 small)
