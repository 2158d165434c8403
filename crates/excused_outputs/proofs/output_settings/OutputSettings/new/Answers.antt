use Rattle.std.proofs.Common.{false, refl, subst}
use Rattle.std.proofs.lemmas.List.{get_or-replicate}
use Rattle.site_types.specs.Done.{OutputOff, at_opening}
use Rattle.blocked_points.specs.Blocks.{AreBlockFlags}
use Rattle.excused_outputs.proofs.output_settings.OutputSettings.new.Goals as goal

pub returns : goal.returns
returns c = record {
  off =
      subst (λ n. AreBlockFlags n (λ place. at_opening c.args.site.now c.args.kept.now (OutputOff place)) c.in_ok-off.off.items) c.len.ensures
      c.in_ok-off.ensures;
  silenced = record { size = refl; each = λ place less. get_or-replicate 256 place false false less };
}
