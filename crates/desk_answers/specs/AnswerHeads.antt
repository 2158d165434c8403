-- The heads of answers.
use Rattle.std.specs.Prelude.{◌++◌, ℕ, List, [], ◌∷◌, codes, unwrap_or}
use Rattle.http.specs.StatusCode.{reason_phrase}
use Rattle.desk_requests.specs.Statuses.{status_number}
use Rattle.desk_requests.specs.declared.status.Status.{Status}
use Rattle.desk_answers.specs.Objects.{number_behind}
use Rattle.desk_answers.specs.declared.content.Content.{Content}
use Rattle.desk_answers.specs.declared.content.Content.TheVariants.{Json, Text, Table}

-- the phrase that goes with a status
abbrev pub phrase_of : Status → List ℕ
phrase_of status = unwrap_or (reason_phrase (status_number status)) []

-- a line of a head ends with two bytes
abbrev pub line_end : List ℕ
line_end = 13 ∷ 10 ∷ []

-- the field that tells what the body is
abbrev pub content_line : Content → List ℕ
content_line Json = codes "Content-Type: application/json" ++ line_end
content_line Text = codes "Content-Type: text/plain" ++ line_end
content_line Table = codes "Content-Type: text/csv" ++ line_end

-- an answer ends with its connection, and has an empty line in front of its body
abbrev pub last_lines : List ℕ
last_lines = codes "Connection: close" ++ line_end ++ line_end

-- the head of an answer
abbrev pub answer_head : Status → Content → List ℕ
answer_head status content =
    number_behind (codes "HTTP/1.1 ") (status_number status) ++ codes " " ++ phrase_of status ++ line_end
    ++ content_line content ++ last_lines
