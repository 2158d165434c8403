use Rattle.std.proofs.Common.{◌≡◌, ◌+◌, [], ◌∷◌}
use Rattle.std.specs.List.{slice_index, slice_index_or}
use Rattle.answer_lanes.specs.Blocks.{none_told}
use Rattle.coincidence.specs.declared.block_zones.BlockZones.{BlockZones}
use Rattle.coincidence.specs.ZoneMasks.{IsMaskAt, mask_in, told_plainly}
use Rattle.coincidence.proofs.Steady.{all_four}
use Rattle.coincidence.proofs.ZoneMasks.{masks_told, plain_told}
use Rattle.coincidence.proofs.block_zones.BlockZones.of_block.Goals as goal

pub returns : goal.returns
returns c =
    let points = c.args.points.now in
    let zones = c.args.zones.now in
    let firsts = c.args.firsts.now in
    let block : BlockZones = record {
      firsts = firsts;
      told = c.plainly.result ∷ c.plainly-2.result ∷ c.plainly-3.result ∷ c.plainly-4.result ∷ [];
      others = c.in_ok-first.first.others ∷ c.in_ok-second.second.others ∷ c.in_ok-third.third.others ∷ c.in_ok-fourth.fourth.others ∷ [];
      other_zones =
          c.in_ok-first.first.other_zones ∷ c.in_ok-second.second.other_zones ∷ c.in_ok-third.third.other_zones ∷ c.in_ok-fourth.fourth.other_zones ∷ [];
    } in
    record {
      plain =
          all_four (λ n. slice_index_or block.told n none_told ≡ told_plainly (slice_index_or block.told n none_told).counted)
          (plain_told c.plainly.result _ c.plainly.ensures) (plain_told c.plainly-2.result _ c.plainly-2.ensures)
          (plain_told c.plainly-3.result _ c.plainly-3.ensures) (plain_told c.plainly-4.result _ c.plainly-4.ensures);
      masks = λ number k less small.
          all_four (λ n. IsMaskAt points zones (slice_index firsts n + k) (mask_in block n k))
          (masks_told points zones (slice_index firsts 0) c.in_ok-first.first c.plainly.result c.in_ok-first.ensures c.plainly.ensures k small)
          (masks_told points zones (slice_index firsts 1) c.in_ok-second.second c.plainly-2.result c.in_ok-second.ensures c.plainly-2.ensures k small)
          (masks_told points zones (slice_index firsts 2) c.in_ok-third.third c.plainly-3.result c.in_ok-third.ensures c.plainly-3.ensures k small)
          (masks_told points zones (slice_index firsts 3) c.in_ok-fourth.fourth c.plainly-4.result c.in_ok-fourth.ensures c.plainly-4.ensures k small)
          number less;
    }
