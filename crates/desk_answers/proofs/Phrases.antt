-- The phrases of the statuses.
use Rattle.std.proofs.Common.{◌≤◌, length, arith}
use Rattle.desk_requests.specs.declared.status.Status.{Status}
use Rattle.desk_requests.specs.declared.status.Status.TheVariants.{Done, BadRequest, Forbidden, NotFound, MethodNotAllowed, Conflict}
use Rattle.desk_requests.specs.declared.status.Status.TheVariants.{LengthRequired, BodyTooLarge, NotImplemented, Unavailable, NoRoom}
use Rattle.desk_answers.specs.AnswerHeads.{phrase_of}

-- each is short
pub phrase_short : (status : Status) → length (phrase_of status) ≤ 32
phrase_short Done = omega arith
phrase_short BadRequest = omega arith
phrase_short Forbidden = omega arith
phrase_short NotFound = omega arith
phrase_short MethodNotAllowed = omega arith
phrase_short Conflict = omega arith
phrase_short LengthRequired = omega arith
phrase_short BodyTooLarge = omega arith
phrase_short NotImplemented = omega arith
phrase_short Unavailable = omega arith
phrase_short NoRoom = omega arith
