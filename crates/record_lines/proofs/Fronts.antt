-- Texts whose front passes a test byte by byte.
use Rattle.std.proofs.Common.{◌≡◌, ◌∙◌, ◌+◌, ◌<◌, ◌&&◌, ℕ, Bool, true, List, Some, length, get_or, take, drop, sym, ap, arith}
use Rattle.std.specs.Prelude.{slice_get}
use Rattle.std.specs.List.{list_all}
use Rattle.std.proofs.Math.Seq.{take-add}
use Rattle.std.proofs.lemmas.Bool.{and_from}
use Rattle.std.proofs.lemmas.List.{get_or-drop, length-drop}
use Rattle.std.proofs.lemmas.Option.{get_or_from_slice_get, slice_get-get_or, slice_get_within}
use Rattle.std.proofs.lemmas.List.Folds.{list_all-append, list_all_more}

-- a front behind a front
pub front_behind : (test : ℕ → Bool) (text : List ℕ) (count more : ℕ) → list_all test (take count text) ≡ true
    → list_all test (take more (drop count text)) ≡ true → list_all test (take (count + more) text) ≡ true
front_behind test text count more first next =
    ap (list_all test) (take-add count more text) ∙ list_all-append test (take count text) (take more (drop count text)) ∙ and_from
    (list_all test (take count text)) (list_all test (take more (drop count text))) first next

pub one_more : (test : ℕ → Bool) (text : List ℕ) (place : ℕ) (front passes : Bool) → place < length text → front ≡ list_all test (take place text)
    → passes ≡ test (get_or text place 0) → (front && passes) ≡ list_all test (take (place + 1) text)
one_more test text place front passes within is_front is =
    ap (λ b. b && passes) is_front ∙ ap (λ b. list_all test (take place text) && b) is ∙ sym (list_all_more test text place 0 within)

-- a byte of the rest
pub behind_at : (text : List ℕ) (count place byte : ℕ) → slice_get text (count + place) ≡ Some byte → slice_get (drop count text) place ≡ Some byte
behind_at text count place byte is =
    let within = slice_get_within text (count + place) byte is in
    let short = length-drop count text in
    slice_get-get_or (drop count text) place 0 (omega (arith, within, short)) ∙ ap Some
    (get_or-drop count text place 0 ∙ get_or_from_slice_get text (count + place) byte 0 is)
