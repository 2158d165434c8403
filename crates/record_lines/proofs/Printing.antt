-- A printed text grows by a space and a field, and is its first field and then each other one behind a space.
use Rattle.std.proofs.Common.{◌≡◌, ◌∙◌, ◌+◌, ◌<◌, ◌++◌, ℕ, List, [], ◌∷◌, length, get_or, map, take, refl, sym, ap, append_assoc}
use Rattle.std.proofs.lemmas.List.{append-nil, map_more}
use Rattle.tick_units.specs.declared.seat.Seat.{Seat}
use Rattle.line_fields.proofs.Joined.{spaced}
use Rattle.record_lines.specs.Printed.{joined, seat_text}

-- one field more
pub joined_push : (text : List ℕ) (fields : List (List ℕ)) (last : List ℕ) → joined text (fields ++ last ∷ []) ≡ joined text fields ++ 32 ∷ last
joined_push text [] last = refl
joined_push text (first ∷ fields) last = joined_push (text ++ 32 ∷ first) fields last

-- one seat more
pub joined_more : (text before after : List ℕ) (seats : List Seat) (place : ℕ) (d : Seat) → place < length seats
    → before ≡ joined text (map seat_text (take place seats)) →
    after ≡ before ++ 32 ∷ seat_text (get_or seats place d) → after ≡ joined text (map seat_text (take (place + 1) seats))
joined_more text before after seats place d within is more =
    more ∙ ap (λ b. b ++ 32 ∷ seat_text (get_or seats place d)) is ∙ sym
    (joined_push text (map seat_text (take place seats)) (seat_text (get_or seats place d)))
    ∙ ap (joined text) (sym (map_more seat_text seats place d within))

-- a printed text is its first field, then each other one behind a space
pub joined_is : (text : List ℕ) (fields : List (List ℕ)) → joined text fields ≡ text ++ spaced fields
joined_is text [] = sym (append-nil text)
joined_is text (first ∷ fields) = joined_is (text ++ 32 ∷ first) fields ∙ append_assoc text (32 ∷ first) (spaced fields)
