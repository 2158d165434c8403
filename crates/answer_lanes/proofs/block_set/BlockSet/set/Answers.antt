use Rattle.std.proofs.Common.{refl, sym, ◌∙◌, ◌+◌, arith, ◌≡◌, ap, Bool, true, false, not}
use Rattle.std.specs.Bool.{beq}
use Rattle.answer_lanes.specs.Places.{has_place}
use Rattle.answer_lanes.proofs.block_set.BlockSet.set.Goals as goal

same_bool : (a b : Bool) → not (beq a b) ≡ false → a ≡ b
same_bool true true e = refl
same_bool false false e = refl
same_bool true false e = absurd (cc)
same_bool false true e = absurd (cc)

pub returns-else-has_bit_8-on : goal.returns-else-has_bit_8-on
returns-else-has_bit_8-on c =
    let here : c.args.place + 0 ≡ c.args.place = omega arith in
    record {
      room = refl;
      this = ap (has_place c.args.self.now) (sym here) ∙ ap (λ set. has_place set (c.args.place + 0)) (sym c.self.view_is)
          ∙ sym (c.eight_from.ensures 0 (omega arith)) ∙ sym c.has_bit_8.ensures ∙ same_bool c.has_bit_8.result c.args.on c.if-has_bit_8-on.false;
      others = λ k other. refl;
    }
