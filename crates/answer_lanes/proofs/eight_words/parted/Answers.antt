use Rattle.std.proofs.Common.{sym, subst}
use Rattle.answer_lanes.specs.Words.{AreBitsOf}
use Rattle.answer_lanes.proofs.Words.{bits_parted}
use Rattle.answer_lanes.proofs.eight_words.parted.Goals as goal

pub returns : goal.returns
returns c = subst (λ bytes. AreBitsOf bytes c.args.word) (sym c.to_le_bytes.ensures) (bits_parted c.args.word)
