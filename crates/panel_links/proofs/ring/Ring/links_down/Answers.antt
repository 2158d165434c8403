use Rattle.std.proofs.Common.{◌≡◌, ◌∙◌, ◌<◌, ◌+◌, ◌-◌, ap, sym, arith}
use Rattle.std.specs.Prelude.{not}
use Rattle.site_types.specs.Bits.{has_bit}
use Rattle.site_types.proofs.Masks.{has_bit-zero, mask_from_bits}
use Rattle.panel_links.specs.Words.{left_of}
use Rattle.panel_links.proofs.Downs.{alone_there, left_within, two_bits, up_there}
use Rattle.panel_links.specs.Stands.{is_down_at}
use Rattle.panel_links.proofs.ring.Ring.links_down.Goals as goal

pub returns-then-self-eq0 : goal.returns-then-self-eq0
returns-then-self-eq0 c panels calls stands =
    let panel = c.args.panel in
    mask_from_bits 8 0 (λ k. is_down_at panels panel calls (k + 1)) (omega arith)
    (λ k small. has_bit-zero k ∙ sym (up_there panels panel (k + 1) calls (sym (stands.links (k + 1) (omega arith) (omega (arith, small)))
    ∙ ap (λ down. not (has_bit down (k + 1 - 1))) c.if-self-eq0.true ∙ ap not (has_bit-zero (k + 1 - 1)))))

pub returns-then-self-eq1 : goal.returns-then-self-eq1
returns-then-self-eq1 c panels calls stands =
    let panel = c.args.panel in
    mask_from_bits 8 0 (λ k. is_down_at panels panel calls (k + 1)) (omega arith)
    (λ k small. has_bit-zero k ∙ sym (alone_there panels panel (k + 1) calls (sym stands.size ∙ c.if-self-eq1.true)))

pub returns : goal.returns
returns c panels calls stands =
    let panel = c.args.panel in
    let few = c.args.self.now.few in
    let size = stands.size in
    let left : c.left_of-left.result ≡ left_of panels panel = c.left_of-left.ensures ∙ ap (λ n. left_of n panel) size in
    let there = left_within panels panel c.requires.0 (omega (arith, c.requires.1, size)) in
    let several : 1 < panels = omega (arith, c.if-self-eq1.false, c.requires.0, c.requires.1, size) in
    mask_from_bits 8 c.with_bit_8.result (λ k. is_down_at panels panel calls (k + 1)) (omega arith)
    (two_bits panels panel calls several c.with_bit_8-own.result c.with_bit_8.result c.left_of-left.result left c.requires.0 (omega (arith, left, there.0))
    (c.with_bit_8-own.ensures.this ∙ ap not (c.is_up.ensures ∙ stands.links panel c.requires.0 (omega (arith, c.requires.1, few))))
    (λ k small apart. c.with_bit_8-own.ensures.others k small apart ∙ has_bit-zero k)
    (c.with_bit_8.ensures.this ∙ ap not (c.is_up-2.ensures ∙ stands.links c.left_of-left.result (omega (arith, left, there.0)) (omega (arith, left, there.1, size, few))))
    c.with_bit_8.ensures.others)
