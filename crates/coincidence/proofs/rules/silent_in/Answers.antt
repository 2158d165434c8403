use Rattle.coincidence.proofs.BlockWords.{silent_bytes}
use Rattle.coincidence.proofs.rules.silent_in.Goals as goal

pub returns : goal.returns
returns c =
    silent_bytes c.args.answers.now c.joined-2.result c.joined.result c.parted.result c.joined-2.type_inv c.joined-2.ensures c.joined.ensures
    c.parted.ensures
