use Rattle.std.proofs.Common.{◌∙◌, ap, sym}
use Rattle.output_calls.specs.SilenceCalls.{zone_masks}
use Rattle.panel_effects.proofs.LatestFacts.{released_is}
use Rattle.panel_effects.proofs.effects.Effects.released.Goals as goal

pub returns : goal.returns
returns c site facts panel before h = h.masks.zones ∙ ap (zone_masks site) (sym (released_is site facts panel before))
