use Rattle.std.proofs.Common.{◌&&◌, refl, sym, subst}
use Rattle.coincidence.proofs.FindingIs.{HasBit}
use Rattle.coincidence.proofs.PlainAlarms.{plain_alarm_is}
use Rattle.coincidence.proofs.PlainZones.{not_silent, numbered, said_of}
use Rattle.coincidence.proofs.Watched.{can_observe, fits_next, point_small}
use Rattle.coincidence.proofs.decide.Decide.take_plain.Goals as goal

pub at-point-requires : goal.at-point-requires
at-point-requires c =
    let q = c.requires.can in
    point_small q.stands c.args.answer.now.point (q.may.own 0 c.args.answer.now refl)

pub judge_in-judgement-requires-clause-may : goal.judge_in-judgement-requires-clause-may
judge_in-judgement-requires-clause-may c = can_observe c.args.self.now c.args.answer.now c.requires.can

pub one_bit-told-requires : goal.one_bit-told-requires
one_bit-told-requires c =
    let q = c.requires.can in
    numbered q.stands c.args.answer.now (fits_next q.site q.kept q.panel q.done q.taken c.args.answer.now q.may) c.at-point.result.now
    c.at-point.ensures c.args.zone.now c.requires.zone

pub one_bit-called-requires : goal.one_bit-called-requires
one_bit-called-requires c =
    let q = c.requires.can in
    numbered q.stands c.args.answer.now (fits_next q.site q.kept q.panel q.done q.taken c.args.answer.now q.may) c.at-point.result.now
    c.at-point.ensures c.args.zone.now c.requires.zone

pub returns-clause-taken : goal.returns-clause-taken
returns-clause-taken c site kept panel done taken stands may =
    c.note_in.ensures.taken site kept panel done taken stands may
    (c.judge_in-judgement.ensures site kept panel done taken stands (fits_next site kept panel done taken c.args.answer.now may))

pub returns-clause-found : goal.returns-clause-found
returns-clause-found c site kept panel done taken stands may =
    let answer = c.args.answer.now in
    let r = c.at-point.result.now in
    let fits = fits_next site kept panel done taken answer may in
    let judges = c.judge_in-judgement.ensures site kept panel done taken stands fits in
    let s = said_of stands answer fits r c.at-point.ensures c.args.zone.now c.requires.zone in
    let counted = c.judge_in-judgement.result.counted in
    plain_alarm_is stands answer may (c.note_in.ensures.taken site kept panel done taken stands may judges) r s.watch c.at-point.ensures s.read
    c.judge_in-judgement.result judges (not_silent answer.heard c.requires.alarm) s.said.rule s.said.partner c.one_bit-told.result
    c.one_bit-called.result c.one_bit-told.type_inv c.one_bit-called.type_inv
    (subst (λ n. HasBit c.one_bit-told.result n counted) (sym s.said.number) c.one_bit-told.ensures)
    (subst (λ n. HasBit c.one_bit-called.result n (counted && r.manual)) (sym s.said.number) c.one_bit-called.ensures)

pub returns-clause-known : goal.returns-clause-known
returns-clause-known c = c.note_in.ensures.known c.args.answer.now.stamp.0 c.args.zone.now c.requires.zone.known
