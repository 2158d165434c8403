use Rattle.std.proofs.Common.{◌≡◌, ℕ, length, ap, ◌∙◌, subst, arith}
use Rattle.retained_journal.specs.Fields.{Agrees, mask_at}
use Rattle.retained_journal.proofs.Agreement.{mask-agrees}
use Rattle.retained_journal.proofs.Writing.{mask_back}
use Rattle.retained_journal.proofs.slot_bytes.put_mask.Goals as goal

pub returns-clause-inside : goal.returns-clause-inside
returns-clause-inside c =
    let size : length c.write_uint128.new.buf ≡ 12 = omega arith in
    mask-agrees 12 c.put.new.bytes c.args.at c.write_uint128.new.buf 0
    (subst (λ (n : ℕ). Agrees n c.put.new.bytes c.args.at c.write_uint128.new.buf 0) size c.put.ensures.inside)
    ∙ ap (mask_at 12 0) c.write_uint128.ensures ∙ mask_back c.args.mask _ c.requires.fits
