use Rattle.std.proofs.Common.{◌/◌, ◌%◌, ◌+◌}
use Rattle.joined_panels.proofs.WaysTaken.{first_known, same_ways}
use Rattle.joined_panels.proofs.ways.Ways.new.Goals as goal

pub returns : goal.returns
returns c was_up spread some up place other l =
    same_ways (was_up (place / 8 + 1) (place % 8 + 1)) spread place other l (first_known (was_up (place / 8 + 1) (place % 8 + 1)) spread some (up (place / 8 + 1) (place % 8 + 1)))
