use Rattle.std.proofs.Common.{refl}
use Rattle.coincidence.proofs.Watched.{point_small}
use Rattle.coincidence.proofs.decide.Decide.goes_on.Goals as goal

pub at-point-requires : goal.at-point-requires
at-point-requires c =
    let q = c.requires in
    point_small q.stands c.args.answer.now.point (q.may.own 0 c.args.answer.now refl)

pub returns : goal.returns
returns c is = record { watch = c.at-point.result.now; read = c.at-point.ensures; stays = c.stays_at.ensures is }
