use Rattle.std.proofs.Common.{ℕ, ◌<◌, ◌^◌, sym, subst, slice_index_or, false, arith}
use Rattle.site_types.proofs.Masks.{mask_below, bit_fits, mask_on, mask_off, mask_none}
use Rattle.site_types.proofs.bits.mask_from_32.Goals as goal
use Rattle.site_types.proofs.bits.mask_from_32.Goals.{then-flag, else-flag}

pub overflow_add-mask : goal.overflow_add-mask
overflow_add-mask c =
    let below =
    bit_fits 32 c.loop-k.k c.loop-k.mask (omega arith)
    (subst (λ m. m < 2 ^ c.loop-k.k) (sym c.loop-k.invariant) (mask_below c.loop-k.k (λ k. slice_index_or c.args.flags.now k false))) in
    omega (arith, below)

pub loop-k-preserved : goal.loop-k-preserved
loop-k-preserved c =
    let test = λ (k : ℕ). slice_index_or c.args.flags.now k false in
    elim c.if-flag.branch [
      | then-flag w ↦ rw w.mask-is (mask_on 32 c.loop-k.k c.loop-k.mask test (omega arith) c.loop-k.invariant w.if-flag.true)
      | else-flag w ↦ rw w.mask-is (mask_off c.loop-k.k c.loop-k.mask test c.loop-k.invariant w.if-flag.false)
    ]

pub loop-k-init : goal.loop-k-init
loop-k-init c = sym (mask_none (λ k. slice_index_or c.args.flags.now k false))
