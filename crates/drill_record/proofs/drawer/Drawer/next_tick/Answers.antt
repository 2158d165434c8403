use Rattle.drill_record.proofs.Draws.{draws}
use Rattle.drill_record.proofs.drawer.Drawer.next_tick.Goals as goal

pub returns : goal.returns
returns c seed ticks h = draws seed ticks _ _ _ _ _ _ h c.next_word-first.ensures c.next_word-second.ensures c.drawn_by.ensures
