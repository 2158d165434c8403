use Rattle.face_reading.proofs.Parting.{ended_if, ended_not}
use Rattle.face_reading.proofs.entry_reading.is_ended.Goals as goal

pub returns-in-Some : goal.returns-in-Some
returns-in-Some c = ended_if c.args.bytes.now c.args.line.now c.in-Some.rest.now c.is_word.result c.in-Some.ensures.cases.0 c.in-Some.ensures.cases.1
    c.is_word.ensures

pub returns-in-None : goal.returns-in-None
returns-in-None c = ended_not c.args.bytes.now c.args.line.now c.in-None.ensures.cases
