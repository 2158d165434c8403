use Rattle.std.proofs.Common.{refl}
use Rattle.operation_desk.proofs.Begun.{desk_new}
use Rattle.operation_desk.proofs.desk.Desk.new.Goals as goal

pub returns : goal.returns
returns c site kept =
    desk_new site kept _ refl refl refl c.new.ensures c.new-2.ensures c.new-3.ensures c.new-4.ensures refl refl
