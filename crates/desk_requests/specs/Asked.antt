-- What the head of a request asks for, or the first status that refuses it.
use Rattle.std.specs.Prelude.{not, nat_le, ℕ, Bool, List, [], ◌∷◌, codes, map, bytes_eq, Option, Some, None}
use Rattle.std.specs.Prelude.{Result, Ok, Err, if◌then◌else◌}
use Rattle.std.specs.List.{filter, list_any}
use Rattle.std.specs.Char.{to_ascii_lowercase}
use Rattle.site_types.specs.Numbers.{number_of}
use Rattle.httparse.specs.Grammar.{RequestHead}
use Rattle.httparse.specs.Spans.{name_and_value}
use Rattle.desk_requests.specs.Paths.{is_posted, route_of}
use Rattle.desk_requests.specs.declared.asking.Asking.{Asking}
use Rattle.desk_requests.specs.declared.route.Route.{Route}
use Rattle.desk_requests.specs.declared.status.Status.{Status}
use Rattle.desk_requests.specs.declared.status.Status.TheVariants.{BadRequest, NotFound, MethodNotAllowed}
use Rattle.desk_requests.specs.declared.status.Status.TheVariants.{LengthRequired, BodyTooLarge, NotImplemented}

-- the name of a field, great and small letters alike; the name asked for is in small ones
abbrev pub has_name : List ℕ → List ℕ × List ℕ → Bool
has_name name field = bytes_eq (map to_ascii_lowercase field.0) (map to_ascii_lowercase name)

-- the values of the fields of a name, in their order
abbrev pub field_values : List ℕ → List (List ℕ × List ℕ) → List (List ℕ)
field_values name fields = map (λ field. field.1) (filter (has_name name) fields)

abbrev pub has_field : List ℕ → List (List ℕ × List ℕ) → Bool
has_field name fields = list_any (has_name name) fields

abbrev pub length_name : List ℕ
length_name = codes "content-length"

abbrev pub encoding_name : List ℕ
encoding_name = codes "transfer-encoding"

abbrev pub allowed_length : Option ℕ → Result ℕ Status
allowed_length None = Err BadRequest
allowed_length (Some count) = if nat_le count 65536 then Ok count else Err BodyTooLarge

-- a length is a number, and at most 65,536
abbrev pub counted_length : List ℕ → Result ℕ Status
counted_length text = allowed_length (number_of text)

-- a body has one length
abbrev pub only_length : List (List ℕ) → Result ℕ Status
only_length [] = Err LengthRequired
only_length (text ∷ []) = counted_length text
only_length (text ∷ other ∷ more) = Err BadRequest

-- the method of a route is POST where it has a body, else GET
abbrev pub has_method : Route → List ℕ → Bool
has_method route method = if is_posted route then bytes_eq method (codes "POST") else bytes_eq method (codes "GET")

abbrev pub with_length : Route → Result ℕ Status → Result Asking Status
with_length route (Ok length) = Ok (record { route = route; length = length })
with_length route (Err status) = Err status

-- the body of what is asked for with one; nothing is looked at for the others
abbrev pub with_body : Route → List (List ℕ × List ℕ) → Result Asking Status
with_body route fields =
    if not (is_posted route) then Ok (record { route = route; length = 0 })
    else with_length route (only_length (field_values length_name fields))

-- no body may come in an encoding of its own
abbrev pub unencoded : Route → List (List ℕ × List ℕ) → Result Asking Status
unencoded route fields = if has_field encoding_name fields then Err NotImplemented else with_body route fields

abbrev pub by_route : List ℕ → List (List ℕ × List ℕ) → Option Route → Result Asking Status
by_route method fields None = Err NotFound
by_route method fields (Some route) =
    if not (has_method route method) then Err MethodNotAllowed else unencoded route fields

-- what a head with this method, target and fields asks for at a site with so many panels
abbrev pub head_asks : ℕ → List ℕ → List ℕ → List (List ℕ × List ℕ) → Result Asking Status
head_asks panels method target fields = by_route method fields (route_of panels target)

abbrev pub asked_by : ℕ → RequestHead → Result Asking Status
asked_by panels head = head_asks panels head.method head.target (map name_and_value head.fields)
