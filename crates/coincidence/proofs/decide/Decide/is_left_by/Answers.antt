use Rattle.std.proofs.Common.{sym, ◌∙◌}
use Rattle.coincidence.proofs.Resting.{left_one}
use Rattle.coincidence.proofs.decide.Decide.is_left_by.Goals as goal

pub returns : goal.returns
returns c left = left_one c.args.self.now c.args.answer.now c.left_by.result c.left_by.ensures (sym c.has_bit_8.ensures ∙ left)
