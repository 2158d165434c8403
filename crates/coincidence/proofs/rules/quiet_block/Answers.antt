use Rattle.std.proofs.Common.{◌≡◌, [], ◌∷◌, ap, slice_index}
use Rattle.site_types.specs.Bits.{has_bit}
use Rattle.coincidence_rules.specs.Counted.{is_silent}
use Rattle.answer_lanes.specs.Blocks.{eight_of}
use Rattle.answer_lanes.specs.Points.{answer_at}
use Rattle.coincidence.proofs.Steady.{all_four, quiet_at}
use Rattle.coincidence.proofs.rules.quiet_block.Goals as goal

pub plain_with-requires : goal.plain_with-requires
plain_with-requires c number k less small =
    let block = c.args.answers.now in
    let alarms = c.requires.alarms in
    let silents = c.requires.silents in
    all_four (λ n. has_bit (slice_index (0 ∷ 0 ∷ 0 ∷ 0 ∷ []) n) k ≡ is_silent (answer_at (eight_of block n) k).heard)
    (quiet_at (eight_of block 0) k (ap (λ xs. slice_index xs 0) alarms) (ap (λ xs. slice_index xs 0) silents))
    (quiet_at (eight_of block 1) k (ap (λ xs. slice_index xs 1) alarms) (ap (λ xs. slice_index xs 1) silents))
    (quiet_at (eight_of block 2) k (ap (λ xs. slice_index xs 2) alarms) (ap (λ xs. slice_index xs 2) silents))
    (quiet_at (eight_of block 3) k (ap (λ xs. slice_index xs 3) alarms) (ap (λ xs. slice_index xs 3) silents)) number less
