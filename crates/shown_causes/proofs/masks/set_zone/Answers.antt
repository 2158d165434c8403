use Rattle.std.proofs.Common.{rules}
use Rattle.asked_markers.proofs.Marking.{sets_zone}
use Rattle.shown_causes.proofs.masks.set_zone.Goals as goal

pub returns : goal.returns
returns c site place valid at =
    sets_zone site valid place c.args.zone.now at c.args.on c.args.masks.now c.with_bit_32.result (search rules) c.with_bit_32.ensures.this
    c.with_bit_32.ensures.others
