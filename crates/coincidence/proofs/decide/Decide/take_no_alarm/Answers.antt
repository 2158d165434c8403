use Rattle.std.proofs.Common.{sym, subst}
use Rattle.coincidence.specs.Changes.{FindsNext}
use Rattle.coincidence.proofs.Observations.{observes_last, fits_last}
use Rattle.coincidence.proofs.Resting.{finds_at_rest, takes_one_at_rest}
use Rattle.coincidence.proofs.decide.Decide.take_no_alarm.Goals as goal

pub returns-then-is_left_by-clause-taken : goal.returns-then-is_left_by-clause-taken
returns-then-is_left_by-clause-taken c = takes_one_at_rest c.args.self.now c.args.answer.now (c.is_left_by.ensures c.if-is_left_by.true)

pub returns-then-is_left_by-clause-found : goal.returns-then-is_left_by-clause-found
returns-then-is_left_by-clause-found c =
    subst (FindsNext c.args.self.now c.args.answer.now) (sym c.plain_finding.ensures)
    (finds_at_rest c.args.self.now c.args.answer.now (c.is_left_by.ensures c.if-is_left_by.true))

pub quiet_finding-requires : goal.quiet_finding-requires
quiet_finding-requires c = let q = c.requires.may in
    observes_last _ c.args.answer.now q (c.note_quiet.ensures.taken c.requires.quiet q.site q.kept q.panel q.done q.taken q.stands q.may)

pub returns-clause-taken : goal.returns-clause-taken
returns-clause-taken c = c.note_quiet.ensures.taken c.requires.quiet

pub returns-clause-found : goal.returns-clause-found
returns-clause-found c site kept panel done taken stands may =
    c.quiet_finding.ensures c.requires.quiet site kept panel done taken (c.note_quiet.ensures.taken c.requires.quiet site kept panel done taken stands may)
    (fits_last site kept panel done taken c.args.answer.now may)
