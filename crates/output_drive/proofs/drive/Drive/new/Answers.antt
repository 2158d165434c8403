use Rattle.std.proofs.Common.{[], ◌∙◌, ap, subst}
use Rattle.std.specs.Prelude.{not}
use Rattle.site_types.specs.Profile.{routing_of}
use Rattle.output_delays.specs.Stands.{StandsFor as DelaysStand}
use Rattle.routing_outputs.specs.Stands.{StandsFor as RoutingStands}
use Rattle.output_drive.proofs.Sounding.{none_where}
use Rattle.output_drive.proofs.drive.Drive.new.Goals as goal

pub returns : goal.returns
returns c facts done =
    let site = c.args.site.now in
    let panel = c.args.panel in
    record {
      silence = c.new.ensures;
      delays = subst (λ active. DelaysStand site panel active [] c.new-2.result) (ap not c.has_bit_8-active.ensures) c.new-2.ensures;
      routing =
          subst (λ limit. RoutingStands site panel limit [] c.new-3.result) (c.routing.ensures ∙ ap routing_of c.profile.ensures) c.new-3.ensures;
      on = none_where site panel;
      sounders = c.sounders_of.ensures;
    }
