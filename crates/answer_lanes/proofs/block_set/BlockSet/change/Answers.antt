use Rattle.std.proofs.Common.{refl, ◌∙◌, ap, slice_index_or, arith}
use Rattle.std.proofs.lemmas.Option.{slice_get_read}
use Rattle.answer_lanes.specs.Known.{in_none}
use Rattle.answer_lanes.proofs.KnownBlocks.{all_stay, numbers_stay, one_mended}
use Rattle.answer_lanes.proofs.block_set.BlockSet.change.Goals as goal

pub invariant_of-self : goal.invariant_of-self
invariant_of-self c =
    let old = c.self.inside in
    let blocks = old.blocks.items in
    let numbers = old.numbers.items in
    let number = c.number_at-number.result in
    let is = c.number_at-number.ensures ∙ ap (λ xs. slice_index_or xs c.args.place in_none) c.as_slice.ensures.value in
    let below = c.if-number-len.true in
    let size = c.len.ensures in
    let there = slice_get_read blocks _ number c.index.result.now refl (omega (arith, below, size)) c.index.ensures in (
      one_mended c.args.place c.args.on old.places c.set.new.self c.set.ensures numbers blocks c.self.invariant.0 c.self.invariant.1 number is
          c.index.result.now there _ c.eights_from-word.ensures,
      numbers_stay c.args.place c.args.on old.places c.set.new.self c.set.ensures numbers blocks c.self.invariant.0 c.self.invariant.1 number
          c.index.result.now there _,
    )

pub invariant_of-self-else-number-len : goal.invariant_of-self-else-number-len
invariant_of-self-else-number-len c =
    let old = c.self.inside in
    let is = c.number_at-number.ensures ∙ ap (λ xs. slice_index_or xs c.args.place in_none) c.as_slice.ensures.value in
    let past = c.if-number-len.false in
    let size = c.len.ensures in (
      all_stay c.args.place c.args.on old.places c.set.new.self c.set.ensures old.numbers.items old.blocks.items c.self.invariant.0 c.self.invariant.1
          c.number_at-number.result is (omega (arith, past, size)),
      c.self.invariant.1,
    )
