use Rattle.std.proofs.Common.{◌≡◌, ◌∙◌, ◌+◌, ap, arith, false, slice_index_or}
use Rattle.site_types.specs.Bits.{mask_of}
use Rattle.site_types.proofs.Masks.{mask_same}
use Rattle.kept_words.specs.Arrivals.{counts_as_down}
use Rattle.kept_words.proofs.kept_words.KeptWords.links_down.Goals as goal

pub returns : goal.returns
returns c panels panel arrivals stands =
    let end : c.loop-link.link ≡ 9 = omega arith in
    c.mask_from_8.ensures
    ∙ ap (λ n. mask_of n (λ k. slice_index_or c.loop-link.down k false)) c.loop-link.invariant.size
    ∙ mask_same 8 (λ k. slice_index_or c.loop-link.down k false) (λ k. counts_as_down panels panel arrivals c.args.now.0 c.args.limit (k + 1))
    (λ k small. c.loop-link.invariant.known panels panel arrivals stands k (omega arith))
