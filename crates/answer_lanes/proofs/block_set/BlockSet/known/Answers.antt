use Rattle.std.proofs.Common.{refl, sym, ◌∙◌, ap, subst, slice_get}
use Rattle.std.proofs.lemmas.Option.{slice_get_read}
use Rattle.std.specs.Cmp.Lexicographic.{same_text}
use Rattle.answer_lanes.specs.Words.{AreEights}
use Rattle.answer_lanes.proofs.block_set.BlockSet.known.Goals as goal

pub returns-then-eq : goal.returns-then-eq
returns-then-eq c =
    let look = c.in_ok-block.ensures.lookup in
    let block = c.in_ok-block.block.now in
    let number = c.args.number in
    let there = slice_get_read c.deref.result.now _ number block refl look.3.0 look.1 in
    let word = c.self.invariant.0 number block (ap (λ xs. slice_get xs number) (sym c.deref.ensures.value) ∙ there) in
    let firsts = same_text block.firsts c.args.firsts.now (sym c.if-eq.true ∙ c.eq.ensures) in
    subst (λ set. AreEights set c.args.firsts.now block.word) c.self.view_is
    (subst (λ xs. AreEights c.self.inside.places xs block.word) firsts word)
