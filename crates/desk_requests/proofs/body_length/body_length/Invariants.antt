use Rattle.std.proofs.Common.{◌≡◌, map, take}
use Rattle.std.specs.Prelude.{option_map}
use Rattle.httparse.specs.Borrowed.{header_parts}
use Rattle.desk_requests.specs.Asked.{length_name, field_values}
use Rattle.desk_requests.proofs.FieldValues.{listed_value}
use Rattle.desk_requests.proofs.body_length.body_length.Given as goal

abbrev pub invariant-loop-field : goal.invariant-loop-field
invariant-loop-field l =
    listed_value (option_map (λ s. s.now) l.found) ≡ field_values length_name (map header_parts (take l.field-index l.fields))
