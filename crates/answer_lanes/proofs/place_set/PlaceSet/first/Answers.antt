use Rattle.std.proofs.Common.{◌==◌, sym, ◌∙◌, ap}
use Rattle.std.proofs.lemmas.Nat.Bits.{bit_at_ones, bit_at-zero}
use Rattle.site_types.specs.Bits.{has_bit}
use Rattle.answer_lanes.proofs.PlaceSets.{has_first}
use Rattle.answer_lanes.proofs.place_set.PlaceSet.first.Goals.{then-all, else-all}
use Rattle.answer_lanes.proofs.place_set.PlaceSet.first.Goals as goal

pub returns : goal.returns
returns c =
    has_first c.args.count c.if-all.byte c.args.all _ (c.in_ok-bytes.ensures.items_if_clones_equal (λ y e. e))
    (elim c.if-all.branch [
      | then-all w ↦ (λ k small. ap (λ n. has_bit n k) w.byte-is ∙ ap (λ n. n == 1) (bit_at_ones 8 k small) ∙ sym w.if-all.true)
      | else-all w ↦ (λ k small. ap (λ n. has_bit n k) w.byte-is ∙ ap (λ n. n == 1) (bit_at-zero k) ∙ sym w.if-all.false)
    ])
