-- Walks over the fields of an order line: so many of its seats are read, and whether all have numbers.
use Rattle.std.proofs.Common.{◌≡◌, ◌<◌, ◌+◌, ◌-◌, ◌++◌, ◌&&◌, ◌∙◌, ℕ, Bool, true, false, List, [], ◌∷◌, refl, sym, ap, append_assoc}
use Rattle.tick_units.specs.declared.seat.Seat.{Seat}
use Rattle.site_types.specs.Fields.{after_space, before_space}
use Rattle.line_fields.proofs.Spaces.{one_fewer}
use Rattle.line_fields.specs.Fields.{each_field}
use Rattle.record_lines.specs.Seats.{is_numbered, seat_of, seats_of}

pub seats_step : (count passed : ℕ) (rest : List ℕ) (before whole : List Seat) → passed < count → before ++ seats_of (count - passed) rest ≡ whole →
    (before ++ seat_of (before_space rest) ∷ []) ++ seats_of (count - (passed + 1)) (after_space rest) ≡ whole
seats_step count passed rest before whole below is =
    append_assoc before (seat_of (before_space rest) ∷ []) (seats_of (count - (passed + 1)) (after_space rest)) ∙ sym
    (ap (λ n. before ++ seats_of n rest) (one_fewer count passed below)) ∙ is

pub seats_on : (count passed : ℕ) (rest front next : List ℕ) (seat : Seat) (before after whole : List Seat) → passed < count → next ≡ after_space rest
    → front ≡ before_space rest →
    seat ≡ seat_of front → after ≡ before ++ seat ∷ [] → before ++ seats_of (count - passed) rest ≡ whole
    → after ++ seats_of (count - (passed + 1)) next ≡ whole
seats_on count passed rest front next seat before after whole below is_next is_front is_seat is_after is =
    ap (λ a. a ++ seats_of (count - (passed + 1)) next) is_after ∙ ap (λ r. (before ++ seat ∷ []) ++ seats_of (count - (passed + 1)) r) is_next
    ∙ ap (λ s. (before ++ s ∷ []) ++ seats_of (count - (passed + 1)) (after_space rest)) (is_seat ∙ ap seat_of is_front) ∙ seats_step count passed
    rest before whole below is

and_assoc : (a b c : Bool) → ((a && b) && c) ≡ (a && (b && c))
and_assoc true b c = refl
and_assoc false b c = refl

-- one field more has a number or hasn't
pub numbers_on : (count passed : ℕ) (rest front next : List ℕ) (numbered has after whole : Bool) → passed < count → next ≡ after_space rest
    → front ≡ before_space rest → has ≡ is_numbered front → after ≡ (numbered && has) →
    (numbered && each_field is_numbered (count - passed) rest) ≡ whole → (after && each_field is_numbered (count - (passed + 1)) next) ≡ whole
numbers_on count passed rest front next numbered has after whole below is_next is_front is_has is_after is =
    let more = each_field is_numbered (count - (passed + 1)) (after_space rest) in
    ap (λ r. after && each_field is_numbered (count - (passed + 1)) r) is_next ∙ ap (λ a. a && more) is_after
    ∙ ap (λ h. (numbered && h) && more) (is_has ∙ ap is_numbered is_front) ∙ and_assoc numbered (is_numbered (before_space rest)) more
    ∙ sym (ap (λ n. numbered && each_field is_numbered n rest) (one_fewer count passed below)) ∙ is

pub both_numbered : (numbered has after : Bool) → numbered ≡ true → after ≡ has → after ≡ (numbered && has)
both_numbered numbered has after is same = same ∙ sym (ap (λ b. b && has) is)

pub not_both : (numbered has after : Bool) → numbered ≡ false → after ≡ false → after ≡ (numbered && has)
not_both numbered has after is none = none ∙ sym (ap (λ b. b && has) is)
