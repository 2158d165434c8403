use Rattle.std.proofs.Common.{refl}
use Rattle.coincidence.proofs.FindingIs.{quiet_is}
use Rattle.coincidence.proofs.Observations.{fits_last}
use Rattle.coincidence.proofs.Watched.{point_small}
use Rattle.coincidence.proofs.decide.Decide.take_other.Goals as goal

pub at-requires : goal.at-requires
at-requires c =
    let q = c.requires.may in
    point_small (c.note_quiet.ensures.taken c.requires.quiet q.site q.kept q.panel q.done q.taken q.stands q.may) c.args.answer.now.point
    (q.may.own 0 c.args.answer.now refl)

pub returns : goal.returns
returns c = record {
  taken = c.note_quiet.ensures.taken c.requires.quiet;
  found = λ site kept panel done taken stands may zones mask.
      quiet_is (c.note_quiet.ensures.taken c.requires.quiet site kept panel done taken stands may) c.args.answer.now
      (fits_last site kept panel done taken c.args.answer.now may) c.requires.quiet c.at.result.now c.at.ensures c.is_missing.result c.is_missing.ensures;
}
