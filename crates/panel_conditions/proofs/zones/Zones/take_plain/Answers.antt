use Rattle.std.proofs.Common.{◌∙◌, slice_get, refl, ap, arith}
use Rattle.panel_conditions.specs.Parts.{told_finding, plain_told}
use Rattle.panel_conditions.proofs.Drawn.{taken_but, taken_not_yet, taken_more, taken_by_all}
use Rattle.panel_conditions.proofs.NextBit.{cleared_smaller, fewer_bits, others_stay}
use Rattle.panel_conditions.proofs.Plain.{plain_at, plain_by}
use Rattle.panel_conditions.proofs.zones.Zones.take_plain.Goals as goal

pub loop-left-init : goal.loop-left-init
loop-left-init c = record {
  among = λ i is. is;
  fits = omega arith;
  watches = λ numbered j.
      taken_not_yet (told_finding c.args.stamp (plain_told c.args.zones)) j (slice_get c.args.self.now.watches.items j) (numbered j)
      ∙ ap (λ m. taken_but m j (told_finding c.args.stamp (plain_told c.args.zones)) (slice_get c.args.self.now.watches.items j)) (plain_by c.args.stamp c.args.zones);
  count = refl;
  changed = refl;
  signs = refl;
  moved = refl;
}

pub loop-left-preserved : goal.loop-left-preserved
loop-left-preserved c =
    let h = c.loop-left.invariant in
    let next = c.with_bit_32-left in
    let k = c.lowest_bit-k.result in
    let finding = told_finding c.args.stamp (plain_told c.args.zones) in
    record {
      among = λ i is. h.among i (fewer_bits c.loop-left.left next.result k h.fits next.type_inv next.ensures.others next.ensures.this i is);
      fits = next.type_inv;
      watches = λ numbered j.
          taken_more k c.loop-left.left next.result finding j (slice_get c.args.self.now.watches.items j)
          (slice_get c.loop-left.self.watches.items j) (slice_get c.confirm_at.new.self.watches.items j)
          (numbered j) c.lowest_bit-k.ensures.set next.ensures.this
          (others_stay c.loop-left.left next.result k j h.fits next.type_inv next.ensures.others)
          (h.watches numbered j) (c.confirm_at.ensures.watches finding refl
          (plain_at c.args.stamp c.args.zones k (h.among k c.lowest_bit-k.ensures.set)) j);
      count = c.confirm_at.ensures.count ∙ h.count;
      changed = c.confirm_at.ensures.rest.0 ∙ h.changed;
      signs = c.confirm_at.ensures.rest.1 ∙ h.signs;
      moved = c.confirm_at.ensures.rest.2 ∙ h.moved;
    }

pub loop-left-smaller : goal.loop-left-smaller
loop-left-smaller c =
    let next = c.with_bit_32-left in
    cleared_smaller c.loop-left.left c.lowest_bit-k.result next.result next.ensures.value c.lowest_bit-k.ensures.set next.ensures.this

pub returns : goal.returns
returns c = record {
  watches = λ numbered k.
      c.loop-left.invariant.watches numbered k
      ∙ taken_by_all (told_finding c.args.stamp (plain_told c.args.zones)) c.loop-left.left k (slice_get c.args.self.now.watches.items k) c.loop-left-test.false;
  count = c.loop-left.invariant.count;
  changed = c.loop-left.invariant.changed;
  signs = c.loop-left.invariant.signs;
  moved = c.loop-left.invariant.moved;
}
