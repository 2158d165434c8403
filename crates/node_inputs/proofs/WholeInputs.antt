-- What was read of a connection where reading stops.
use Rattle.std.proofs.Common.{◌≡◌, ◌≤◌, ◌∙◌, ◌++◌, ℕ, List, Option, Some, None, length, take, sym, ap, subst}
use Rattle.std.specs.Prelude.{IfSome}
use Rattle.std.proofs.Math.Seq.{take-append_seam}
use Rattle.std.proofs.lemmas.List.{take_all}
use Rattle.panel_edges.specs.Contents.{Consumes}
use Rattle.panel_edges.proofs.Shrinking.{consumes_more}
use Rattle.desk_requests.specs.Rooms.{GainsBytes, read_into}
use Rattle.desk_requests.specs.declared.request_room.RequestRoom.{RequestRoom}
use Rattle.desk_requests.proofs.ReadPieces.{all_read, all_read_as, read_nothing}
use Rattle.node_inputs.specs.Reading.{ReadsInput, most_input_bytes}

first_of_all : (left : Option (List ℕ)) (bytes : List ℕ) → length bytes ≤ most_input_bytes → IfSome left (λ all. all ≡ bytes)
    → IfSome left (λ all. bytes ≡ take most_input_bytes all)
first_of_all None bytes few is = tt
first_of_all (Some all) bytes few is = sym is ∙ sym (take_all most_input_bytes all (subst (λ xs. length xs ≤ most_input_bytes) (sym is) few))

first_of_more : (left rest : Option (List ℕ)) (bytes : List ℕ) → length bytes ≡ most_input_bytes → Consumes left rest bytes
    → IfSome left (λ all. bytes ≡ take most_input_bytes all)
first_of_more None rest bytes full consumed = tt
first_of_more (Some all) None bytes full consumed = absurd consumed
first_of_more (Some all) (Some rest) bytes full consumed =
    sym (take-append_seam bytes rest) ∙ ap (λ n. take n (bytes ++ rest)) full ∙ ap (λ xs. take most_input_bytes xs) (sym consumed)

-- the input ended
pub read_to_end : (left mid rest : Option (List ℕ)) (old new : RequestRoom) (count : ℕ) → Consumes left mid (read_into old)
    → length (read_into new) ≤ most_input_bytes → GainsBytes old new mid rest count → count ≡ 0 → ReadsInput left rest (read_into new)
read_to_end left mid rest old new count consumed few gains none =
    let same = read_nothing old new mid rest count gains none in
    record {
      consumed = subst (Consumes left rest) (sym gains.behind) (consumes_more left mid rest (read_into old) gains.piece consumed gains.taken);
      first = first_of_all left (read_into new) few
          (all_read_as left (read_into old) (read_into new) same (all_read left mid (read_into old) count none consumed gains.ends));
    }

-- as many bytes were read as are looked at
pub read_enough : (left rest : Option (List ℕ)) (bytes : List ℕ) → Consumes left rest bytes → length bytes ≡ most_input_bytes → ReadsInput left rest bytes
read_enough left rest bytes consumed full = record { consumed = consumed; first = first_of_more left rest bytes full consumed }
