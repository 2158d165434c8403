use Rattle.std.proofs.Common.{◌≡◌, ◌+◌, ◌∙◌, Some, slice_get, ap, sym, arith}
use Rattle.answer_lanes.specs.Places.{has_place}
use Rattle.panel_conditions.proofs.PlaceLists.{place_at, truth}
use Rattle.panel_conditions.proofs.told_missing.ToldMissing.has.Goals as goal

pub returns-then-place-self : goal.returns-then-place-self
returns-then-place-self c same =
    let set = c.self.inside.missing in
    let place = c.args.place in
    let here : place + 0 ≡ place = omega arith in
    ap (λ l. slice_get l place) (sym c.self.view_is) ∙ place_at set c.self.inside.count place c.if-place-self.true
    ∙ ap Some (sym (c.has_bit_8.ensures ∙ c.eight_within.ensures 0 (omega arith) ∙ ap (has_place set) here)
    ∙ truth c.has_bit_8.result c.args.missing same)
