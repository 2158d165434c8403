use Rattle.std.proofs.Common.{false, refl, sym, subst}
use Rattle.coincidence.specs.Places.{HasGoingOn}
use Rattle.coincidence.proofs.Marked.{taken_out}
use Rattle.coincidence.proofs.Watched.{mark_small, point_small, point_read}
use Rattle.coincidence.proofs.TakenAnswer.{others_noted, quiet_noted}
use Rattle.coincidence.proofs.decide.Decide.note_quiet.Goals as goal

pub note-requires : goal.note-requires
note-requires c =
    let q = c.requires in
    point_small q.stands c.args.answer.now.point (q.may.own 0 c.args.answer.now refl)

pub set-requires : goal.set-requires
set-requires c =
    let q = c.requires in
    mark_small q.stands c.args.answer.now.point (q.may.own 0 c.args.answer.now refl)

pub returns-clause-taken : goal.returns-clause-taken
returns-clause-taken c quiet site kept panel done taken stands may =
    let answer = c.args.answer.now in
    let read = point_read stands answer.point (may.own 0 answer refl) in
    quiet_noted stands answer may quiet read.0 c.note.new.self read.1 (c.note.ensures read.0 read.1) c.set.new.self
    (subst (λ ps. HasGoingOn c.set.new.self c.args.self.now.since.0 c.args.self.now.reset ps c.args.self.now.zones.items)
    (sym (c.note.ensures read.0 read.1)) (taken_out c.set.new.self answer.point _ stands.going_on c.set.ensures))

pub returns-clause-others : goal.returns-clause-others
returns-clause-others c =
    let q = c.requires in
    let read = point_read q.stands c.args.answer.now.point (q.may.own 0 c.args.answer.now refl) in
    others_noted c.args.self.now.points c.args.answer.now.point c.args.answer.now.heard false (record { 0 = 0 }) c.args.answer.now.stamp read.0 read.1 c.note.new.self c.note.ensures
