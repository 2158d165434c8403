use Rattle.std.proofs.Common.{refl}
use Rattle.coincidence.proofs.PlainlyFound.{detector_found}
use Rattle.coincidence.proofs.Watched.{can_observe, fits_next, point_small}
use Rattle.coincidence.proofs.decide.Decide.take_detector.Goals as goal

pub at-point-requires : goal.at-point-requires
at-point-requires c =
    let q = c.requires.can in
    point_small q.stands c.args.answer.now.point (q.may.own 0 c.args.answer.now refl)

pub judge_in-judgement-requires-clause-may : goal.judge_in-judgement-requires-clause-may
judge_in-judgement-requires-clause-may c = can_observe c.args.self.now c.args.answer.now c.requires.can

pub returns-clause-some : goal.returns-clause-some
returns-clause-some c = record {
  taken = λ site kept panel done taken stands may.
      c.note_in.ensures.taken site kept panel done taken stands may
      (c.judge_in-judgement.ensures site kept panel done taken stands (fits_next site kept panel done taken c.args.answer.now may));
  found = λ site kept panel done taken stands may zones mask.
      let answer = c.args.answer.now in
      let judges = c.judge_in-judgement.ensures site kept panel done taken stands (fits_next site kept panel done taken answer may) in
      detector_found stands answer may (c.note_in.ensures.taken site kept panel done taken stands may judges) c.at-point.result.now c.at-point.ensures
      c.args.zone.now c.requires.zone c.judge_in-judgement.result judges c.requires.alarm c.if-point.false zones mask;
}

pub returns-clause-known : goal.returns-clause-known
returns-clause-known c = c.note_in.ensures.known c.args.answer.now.stamp.0 c.args.zone.now c.requires.zone.known
