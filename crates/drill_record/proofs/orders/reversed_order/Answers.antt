use Rattle.std.proofs.Common.{◌≡◌, ◌∙◌, ◌++◌, ◌<◌, [], ◌∷◌, ap, arith, get_or, length, sym, take}
use Rattle.std.specs.Prelude.{Some, slice_get}
use Rattle.std.proofs.lemmas.List.{take_more}
use Rattle.std.proofs.lemmas.Option.{slice_get-get_or}
use Rattle.tick_units.specs.declared.seat.Seat.{Seat}
use Rattle.tick_units.specs.Orders.{canonical_seats}
use Rattle.drill_record.proofs.orders.reversed_order.Goals as goal

some_is : (a b : Seat) → Some a ≡ Some b → a ≡ b
some_is a b e = cc

pub loop-place-preserved : goal.loop-place-preserved
loop-place-preserved c =
    let k = c.loop-place.place in
    let seat = c.seat.result in
    let all = canonical_seats c.args.panels in
    let same = c.canonical-canonical.ensures.seats in
    let test = c.loop-place-test.true in
    let count = c.len-place-end.ensures.count in
    let long = ap length same in
    let within : k < length all = omega (arith, test, count, long) in
    let at : slice_get all k ≡ Some seat = ap (λ xs. slice_get xs k) (sym same) ∙ c.seat.ensures in
    let is : get_or all k seat ≡ seat = some_is _ _ (sym (slice_get-get_or all k seat within) ∙ at) in
    c.push.ensures.items
    ∙ ap (λ xs. xs ++ seat ∷ []) c.loop-place.invariant
    ∙ sym (take_more all k seat within ∙ ap (λ x. take k all ++ x ∷ []) is)
