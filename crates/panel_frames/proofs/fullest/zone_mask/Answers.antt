use Rattle.std.proofs.Common.{◌∙◌}
use Rattle.panel_frames.proofs.ZoneMasks.{numbered_zones}
use Rattle.panel_frames.proofs.fullest.zone_mask.Goals as goal

pub returns : goal.returns
returns c =
    let numbers = c.zone_numbers-numbers in
    c.mask_from_32.ensures ∙ numbered_zones c.args.panel c.args.zones.now numbers.result numbers.ensures.size numbers.ensures.known
