use Rattle.std.proofs.Common.{◌∙◌, ℕ, if◌then◌else◌, slice_get, ap, sym}
use Rattle.site_types.specs.Bits.{has_bit}
use Rattle.site_types.proofs.Masks.{mask_from_bits}
use Rattle.panel_conditions.specs.Parts.{watch_shows}
use Rattle.panel_conditions.proofs.Drawn.{new_nowhere, new_more, new_everywhere}
use Rattle.panel_conditions.proofs.NextBit.{cleared_smaller, fewer_bits, others_stay}
use Rattle.panel_conditions.proofs.zones.Zones.drawn.Goals as goal

pub loop-left-init : goal.loop-left-init
loop-left-init c = record {
  fits = c.ranges.before.fits;
  few = c.ranges.look.fits;
  among = λ j on. on;
  bits = λ j small.
      new_nowhere c.args.look j (watch_shows c.args.sign c.args.now.0 (slice_get c.args.self.now.watches.items j)) (has_bit c.args.before j);
}

pub loop-left-preserved : goal.loop-left-preserved
loop-left-preserved c =
    let shows = λ (j : ℕ). watch_shows c.args.sign c.args.now.0 (slice_get c.args.self.now.watches.items j) in
    let k = c.lowest_bit-k.result in
    let h = c.loop-left.invariant in
    let next = c.with_bit_32-left in
    record {
      fits = c.with_bit_32-mask.type_inv;
      few = next.type_inv;
      among = λ j on. h.among j (fewer_bits c.loop-left.left next.result k h.few next.type_inv next.ensures.others next.ensures.this j on);
      bits = λ j small.
          new_more k c.loop-left.left next.result c.args.look j (shows j) (has_bit c.args.before j) (has_bit c.loop-left.mask j)
          (has_bit c.with_bit_32-mask.result j) c.lowest_bit-k.ensures.set (h.among k c.lowest_bit-k.ensures.set) next.ensures.this
          (others_stay c.loop-left.left next.result k j h.few next.type_inv next.ensures.others) (h.bits j small)
          (λ e. ap (has_bit c.with_bit_32-mask.result) (sym e) ∙ c.with_bit_32-mask.ensures.this ∙ c.shows.ensures ∙ ap shows e)
          (λ apart. c.with_bit_32-mask.ensures.others j small apart);
    }

pub loop-left-smaller : goal.loop-left-smaller
loop-left-smaller c =
    let next = c.with_bit_32-left in
    cleared_smaller c.loop-left.left c.lowest_bit-k.result next.result next.ensures.value c.lowest_bit-k.ensures.set next.ensures.this

pub returns : goal.returns
returns c =
    let shows = λ (j : ℕ). watch_shows c.args.sign c.args.now.0 (slice_get c.args.self.now.watches.items j) in
    mask_from_bits 32 c.loop-left.mask (λ j. if has_bit c.args.look j then shows j else has_bit c.args.before j) c.loop-left.invariant.fits
    (λ j small. c.loop-left.invariant.bits j small
    ∙ new_everywhere c.loop-left.left c.args.look j (shows j) (has_bit c.args.before j) c.loop-left-test.false)
