use Rattle.std.proofs.Common.{◌<◌, Some, set, refl, sym, ◌∙◌, ap, subst}
use Rattle.coincidence.specs.Places.{HasGoingOn}
use Rattle.coincidence.proofs.Marked.{noted_going, taken_out}
use Rattle.coincidence.proofs.PlainZones.{keeps_known, zone_there}
use Rattle.coincidence.proofs.Watched.{mark_small, point_small, zone_small, zone_watch_read, fits_next}
use Rattle.coincidence.proofs.Observations.{floor_judged}
use Rattle.coincidence.proofs.TakenAnswer.{others_noted, stands_noted}
use Rattle.coincidence.proofs.decide.Decide.note_alarm.Goals as goal

pub at-point-requires : goal.at-point-requires
at-point-requires c =
    let q = c.requires in
    point_small q.stands c.args.answer.now.point (q.may.own 0 c.args.answer.now refl)

pub note-requires : goal.note-requires
note-requires c =
    let q = c.requires in
    point_small q.stands c.args.answer.now.point (q.may.own 0 c.args.answer.now refl)

pub index_mut-watch-requires : goal.index_mut-watch-requires
index_mut-watch-requires c =
    let q = c.requires in
    subst (λ n. c.at-point.result.now.zone < n) (sym c.args.self.now.zones.ok.0)
    (zone_small q.stands c.args.answer.now.point (q.may.own 0 c.args.answer.now refl) c.at-point.result.now c.at-point.ensures)

pub set-requires : goal.set-requires
set-requires c =
    let q = c.requires in
    mark_small q.stands c.args.answer.now.point (q.may.own 0 c.args.answer.now refl)

pub returns-clause-taken : goal.returns-clause-taken
returns-clause-taken c site kept panel done taken stands may judges =
    let answer = c.args.answer.now in
    let judgement = c.args.judgement.now in
    let r = c.at-point.result.now in
    let z = c.index_mut-watch.result.now in
    let g = c.set.new.self in
    let fits = fits_next site kept panel done taken answer may in
    let noted = c.note.ensures r c.at-point.ensures in
    let zone = zone_there stands answer fits r c.at-point.ensures
    ∙ ap Some (sym (zone_watch_read stands answer.point fits.own r z c.at-point.ensures c.index_mut-watch.ensures.value)) in
    stands_noted stands answer may r z c.at-point.ensures c.index_mut-watch.ensures.value
    judgement.counted judgement.floor c.note.new.self c.note-2.new.self c.may_pair.result g
    (subst (λ ps. HasGoingOn g c.args.self.now.since.0 c.args.self.now.reset ps (set c.args.self.now.zones.items r.zone c.note-2.new.self)) (sym noted)
    (noted_going r.zone c.may_pair.result answer.point answer.stamp z c.note-2.new.self zone c.note-2.ensures
    (taken_out g answer.point _ stands.going_on c.set.ensures)))
    noted c.may_pair.ensures
    c.note-2.ensures judges.counted (floor_judged stands answer fits r c.at-point.ensures judgement judges)

pub returns-clause-others : goal.returns-clause-others
returns-clause-others c =
    others_noted c.args.self.now.points c.args.answer.now.point c.args.answer.now.heard c.args.judgement.now.counted c.args.judgement.now.floor
    c.args.answer.now.stamp c.at-point.result.now c.at-point.ensures c.note.new.self c.note.ensures

pub returns-clause-known : goal.returns-clause-known
returns-clause-known c =
    let q = c.requires in
    let answer = c.args.answer.now in
    let r = c.at-point.result.now in
    let fits = fits_next q.site q.kept q.panel q.done q.taken answer q.may in
    let z = c.index_mut-watch.result.now in
    keeps_known c.args.self.now c.note.new.self c.set.new.self r.zone c.may_pair.result answer.point answer.stamp z c.note-2.new.self
    (zone_there q.stands answer fits r c.at-point.ensures
    ∙ ap Some (sym (zone_watch_read q.stands answer.point fits.own r z c.at-point.ensures c.index_mut-watch.ensures.value))) c.note-2.ensures
