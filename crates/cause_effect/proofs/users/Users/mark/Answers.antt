use Rattle.std.proofs.Common.{sym, ap}
use Rattle.marker_table.specs.Equations.{values_of}
use Rattle.cause_effect.specs.Users.{has_marker, is_user}
use Rattle.cause_effect.proofs.Using.{or_none}
use Rattle.cause_effect.proofs.users.Users.mark.Goals as goal

pub returns-in_default : goal.returns-in_default
returns-in_default c m =
    or_none (values_of c.args.marks.now m) (is_user c.args.self.now.sets c.args.place m) (ap (λ set. has_marker set m) (sym c.in_default.ensures))
