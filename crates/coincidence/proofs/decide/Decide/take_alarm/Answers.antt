use Rattle.std.proofs.Common.{◌<◌, refl, sym, subst}
use Rattle.coincidence.proofs.Observations.{observes_last, fits_last}
use Rattle.coincidence.proofs.Watched.{can_observe, fits_next, point_small, zone_small}
use Rattle.coincidence.proofs.decide.Decide.take_alarm.Goals as goal

pub at-point-requires : goal.at-point-requires
at-point-requires c =
    let q = c.requires in
    point_small q.stands c.args.answer.now.point (q.may.own 0 c.args.answer.now refl)

pub index-zone-requires : goal.index-zone-requires
index-zone-requires c =
    let q = c.requires in
    subst (λ n. c.at-point.result.now.zone < n) (sym c.args.self.now.zones.ok.0)
    (zone_small q.stands c.args.answer.now.point (q.may.own 0 c.args.answer.now refl) c.at-point.result.now c.at-point.ensures)

pub judge-judgement-requires : goal.judge-judgement-requires
judge-judgement-requires c = record {
  may = can_observe c.args.self.now c.args.answer.now c.requires;
  read = record { point_is = c.at-point.ensures; zone_is = c.index-zone.ensures };
}

pub coincidence_finding-requires : goal.coincidence_finding-requires
coincidence_finding-requires c =
    let q = c.requires in
    let answer = c.args.answer.now in
    observes_last _ answer q (c.note_alarm.ensures.taken q.site q.kept q.panel q.done q.taken q.stands q.may
    (c.judge-judgement.ensures q.site q.kept q.panel q.done q.taken q.stands (fits_next q.site q.kept q.panel q.done q.taken answer q.may)))

pub returns-clause-taken : goal.returns-clause-taken
returns-clause-taken c site kept panel done taken stands may =
    c.note_alarm.ensures.taken site kept panel done taken stands may
    (c.judge-judgement.ensures site kept panel done taken stands (fits_next site kept panel done taken c.args.answer.now may))

pub returns-clause-found : goal.returns-clause-found
returns-clause-found c site kept panel done taken stands may =
    let answer = c.args.answer.now in
    let judges = c.judge-judgement.ensures site kept panel done taken stands (fits_next site kept panel done taken answer may) in
    c.coincidence_finding.ensures site kept panel done taken (c.note_alarm.ensures.taken site kept panel done taken stands may judges)
    (fits_last site kept panel done taken answer may) judges
