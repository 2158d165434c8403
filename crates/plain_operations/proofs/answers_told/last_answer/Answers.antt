use Rattle.std.proofs.Common.{option_map}
use Rattle.plain_operations.specs.Desks.{answered_of, request_of}
use Rattle.plain_operations.proofs.Tellings.{found_more}
use Rattle.plain_operations.proofs.answers_told.last_answer.Goals as goal

pub loop-answered-preserved : goal.loop-answered-preserved
loop-answered-preserved c =
    found_more (request_of c.args.request.now) c.args.tick.0 c.args.answers.now c.loop-answered.answered-index _
    (option_map answered_of c.loop-answered.found) (option_map answered_of c.found_after-found.result) c.loop-answered-test.true
    c.loop-answered.invariant c.found_after-found.ensures
