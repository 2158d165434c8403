-- The numbers of the statuses.
use Rattle.std.specs.Prelude.{ℕ}
use Rattle.desk_requests.specs.declared.status.Status.{Status}
use Rattle.desk_requests.specs.declared.status.Status.TheVariants.{Done, BadRequest, Forbidden, NotFound}
use Rattle.desk_requests.specs.declared.status.Status.TheVariants.{MethodNotAllowed, Conflict, LengthRequired}
use Rattle.desk_requests.specs.declared.status.Status.TheVariants.{BodyTooLarge, NotImplemented, Unavailable, NoRoom}

abbrev pub status_number : Status → ℕ
status_number Done = 200
status_number BadRequest = 400
status_number Forbidden = 403
status_number NotFound = 404
status_number MethodNotAllowed = 405
status_number Conflict = 409
status_number LengthRequired = 411
status_number BodyTooLarge = 413
status_number NotImplemented = 501
status_number Unavailable = 503
status_number NoRoom = 507
