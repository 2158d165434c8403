use Rattle.std.proofs.Common.{◌∷◌, ◌++◌, [], slice_get, ap}
use Rattle.coincidence.proofs.PlainZones.{gone_on, known_marked}
use Rattle.coincidence.proofs.decide.Decide.note_in.Goals as goal

pub returns-then-goes_on-clause-taken : goal.returns-then-goes_on-clause-taken
returns-then-goes_on-clause-taken c site kept panel done taken stands may judges =
    c.mark_going_on.ensures.stands site kept panel done (taken ++ c.args.answer.now ∷ [])
    (gone_on stands c.args.answer.now may c.args.judgement.now judges (c.goes_on.ensures c.if-goes_on.true) c.args.zone.now c.requires.zone)

pub returns-then-goes_on-clause-others : goal.returns-then-goes_on-clause-others
returns-then-goes_on-clause-others c k apart = ap (λ ps. slice_get ps k) c.mark_going_on.ensures.points

pub returns-then-goes_on-clause-known : goal.returns-then-goes_on-clause-known
returns-then-goes_on-clause-known c = known_marked c.args.self.now c.mark_going_on.new.self c.mark_going_on.ensures
