-- The JSON objects that are an answer's whole body.
use Rattle.std.specs.Prelude.{◌++◌, ℕ, List, codes, decimal}
use Rattle.service_keepers.specs.declared.visit.Visit.{Visit}
use Rattle.desk_answers.specs.declared.object.Object.{Object}
use Rattle.desk_answers.specs.declared.object.Object.TheVariants.{Empty, RefusedLine, OtherTick, OtherVisit}
use Rattle.desk_answers.specs.declared.object.Object.TheVariants.{Denied, Tested, Stopped}

-- a number behind a text
abbrev pub number_behind : List ℕ → ℕ → List ℕ
number_behind text number = text ++ decimal number

-- an object of two numbers
abbrev pub pair_text : List ℕ → ℕ → List ℕ → ℕ → List ℕ
pair_text text number other_text other = number_behind text number ++ number_behind other_text other ++ codes "}\n"

-- the level of a code, where 3 is needed
abbrev pub level_text : ℕ → List ℕ
level_text level = number_behind (codes "{\"has\":") level ++ codes ",\"needs\":3}\n"

-- a visit that is kept
abbrev pub visit_text : Visit → List ℕ
visit_text visit =
    number_behind (codes "{\"day\":") visit.day ++ codes ",\"engineer\":\"" ++ visit.engineer.bytes
    ++ number_behind (codes "\",\"visit\":") visit.number ++ codes "}\n"

-- the text of an object, with its line end
abbrev pub object_text : Object → List ℕ
object_text Empty = codes "{}\n"
object_text (RefusedLine line refusal) = pair_text (codes "{\"line\":") line (codes ",\"refusal\":") refusal
object_text (OtherTick expected found) = pair_text (codes "{\"expected\":") expected (codes ",\"found\":") found
object_text (OtherVisit visit) = visit_text visit
object_text (Denied level) = level_text level
object_text (Tested visit tested) = pair_text (codes "{\"tested\":") tested (codes ",\"visit\":") visit
object_text Stopped = codes "{\"stopped\":true}\n"
