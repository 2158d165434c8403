use Rattle.std.proofs.Common.{◌<◌, sym, ◌∙◌, subst, length, arith}
use Rattle.answer_lanes.specs.Known.{HaveNumbers, KeepWords, TakesPlaces, in_none}
use Rattle.answer_lanes.proofs.KnownBlocks.{known_keep, one_number_more, one_word_more}
use Rattle.answer_lanes.proofs.block_set.BlockSet.know.Goals as goal

pub invariant_of-self : goal.invariant_of-self
invariant_of-self c =
    let old = c.self.inside in
    let numbers = c.take_places.new.numbers.items in
    let few = c.if-number.false in
    let size = c.len-number.ensures ∙ c.self.inside.blocks.ok.0 in
    let less : length old.blocks.items < in_none = omega (arith, few, size) in
    let takes = subst (λ n. TakesPlaces c.args.firsts.now n old.numbers.items numbers) size c.take_places.ensures in
    let kept = known_keep old.places old.numbers.items numbers old.blocks.items c.args.firsts.now c.self.invariant.0 c.self.invariant.1 less takes in
    (subst (KeepWords old.places) (sym c.in_err-push.ensures.items) c.self.invariant.0, subst (HaveNumbers numbers) (sym c.in_err-push.ensures.items) kept)

pub invariant_of-self-2 : goal.invariant_of-self-2
invariant_of-self-2 c =
    let old = c.self.inside in
    let blocks = old.blocks.items in
    let numbers = c.take_places.new.numbers.items in
    let firsts = c.args.firsts.now in
    let few = c.if-number.false in
    let size = c.len-number.ensures ∙ c.self.inside.blocks.ok.0 in
    let less : length blocks < in_none = omega (arith, few, size) in
    let takes = subst (λ n. TakesPlaces firsts n old.numbers.items numbers) size c.take_places.ensures in
    let word = c.eights_from-word in (
      subst (KeepWords old.places) (sym c.in_ok-push.ensures.items)
          (one_word_more old.places old.numbers.items numbers blocks firsts c.self.invariant.0 c.self.invariant.1 less takes word.result word.ensures),
      subst (HaveNumbers numbers) (sym c.in_ok-push.ensures.items)
          (one_number_more old.places old.numbers.items numbers blocks firsts c.self.invariant.0 c.self.invariant.1 less takes word.result word.ensures),
    )
