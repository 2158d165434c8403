use Rattle.std.proofs.Common.{refl}
use Rattle.coincidence.proofs.PlainZones.{judged_in}
use Rattle.coincidence.proofs.Watched.{off_since}
use Rattle.coincidence.proofs.decide.Decide.judge_in.Goals as goal

pub is_on-off-requires : goal.is_on-off-requires
is_on-off-requires c = off_since c.requires.may.stands c.args.answer.now c.requires.may.may c.args.point.now c.requires.read

pub returns : goal.returns
returns c site kept panel done taken stands fits =
    judged_in stands c.args.answer.now fits c.args.point.now c.requires.read c.args.zone.now c.requires.zone c.requires.alarm c.is_on-off.result _
    c.is_on-off.ensures refl
