use Rattle.std.proofs.Common.{◌∙◌, ap, ◌==◌}
use Rattle.std.proofs.lemmas.Nat.Bits.{shr_and_one}
use Rattle.tick_units.proofs.SeatSets.{removed}
use Rattle.tick_units.proofs.Seats.{tag_of-task}
use Rattle.tick_units.proofs.seat_set.SeatSet.remove.Goals as goal

pub returns-clause-removed : goal.returns-clause-removed
returns-clause-removed c panels seats has =
    rw (tag_of-task c.args.seat.now.task) (removed panels c.args.self.now.tasks seats c.args.seat.now c.requires has)

pub returns-clause-was_there : goal.returns-clause-was_there
returns-clause-was_there c panels seats has within =
    rw (tag_of-task c.args.seat.now.task) (ap (λ b. b == 1) (shr_and_one _ _) ∙ has.each c.args.seat.now within)
