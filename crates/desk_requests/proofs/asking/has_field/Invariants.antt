use Rattle.std.proofs.Common.{◌≡◌, false, map, take}
use Rattle.httparse.specs.Borrowed.{header_parts}
use Rattle.desk_requests.specs.Asked.{has_field}
use Rattle.desk_requests.proofs.asking.has_field.Given as goal

abbrev pub invariant-loop-field : goal.invariant-loop-field
invariant-loop-field l = has_field l.name (map header_parts (take l.field-index l.fields)) ≡ false
