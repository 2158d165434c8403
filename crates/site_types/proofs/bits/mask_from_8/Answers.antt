use Rattle.std.proofs.Common.{◌<◌, ◌^◌, sym, subst, false, length, slice_index_or}
use Rattle.site_types.proofs.Masks.{mask_fits}
use Rattle.site_types.proofs.bits.mask_from_8.Goals as goal

pub overflow_cast-result : goal.overflow_cast-result
overflow_cast-result c =
    record {
      fits =
          subst (λ m. m < 2 ^ 8) (sym c.mask_from_32.ensures)
          (mask_fits 8 (length c.args.flags.now) (λ k. slice_index_or c.args.flags.now k false) c.requires);
    }
