use Rattle.std.proofs.Common.{refl}
use Rattle.panel_effects.proofs.FactsAsMasks.{no_masks}
use Rattle.panel_effects.proofs.effects.Effects.new.Goals as goal

pub returns : goal.returns
returns c site facts is = record {
  masks = no_masks site _ refl refl refl;
  normal = c.solve.ensures site is;
  manual = c.solve.ensures site is;
  requests = c.requests.ensures site is;
}
