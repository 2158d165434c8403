use Rattle.std.proofs.Common.{◌≡◌, ◌∙◌, ◌+◌, ◌/◌, ◌<◌, ◌^◌, ap, arith}
use Rattle.std.specs.Int.{w128, trailing_zeros}
use Rattle.site_types.specs.Bits.{has_bit}
use Rattle.face_text.proofs.SameBits.{clear_up_to, set_behind}
use Rattle.face_text.proofs.next_change.next_bit.Goals as goal

pub returns-clause-none : goal.returns-clause-none
returns-clause-none c k le less =
    let within : k < c.args.from + trailing_zeros w128 (c.args.mask / 2 ^ c.args.from) = omega (arith, less, c.min.ensures) in
    clear_up_to c.args.mask c.args.from k c.ranges.mask.fits le within

pub returns-clause-some : goal.returns-clause-some
returns-clause-some c less =
    let zeros = trailing_zeros w128 (c.args.mask / 2 ^ c.args.from) in
    let first : c.min.result ≡ zeros = omega (arith, less, c.min.ensures) in
    ap (λ n. has_bit c.args.mask (c.args.from + n)) first
    ∙ set_behind c.args.mask c.args.from c.ranges.mask.fits (omega (arith, less, first))
