use Rattle.std.proofs.Common.{subst}
use Rattle.site_types.specs.Profile.{routing_of}
use Rattle.routing_outputs.specs.Stands.{StandsFor as RoutingStands}
use Rattle.output_calls.specs.RoutingCalls.{routing_calls}
use Rattle.output_drive.proofs.Turning.{confirmation_told}
use Rattle.output_drive.proofs.drive.Drive.confirm.Goals as goal

pub returns : goal.returns
returns c site facts kept done panel before output plan h is same numbered =
    record {
      silence = h.silence;
      delays = h.delays;
      routing =
          subst (λ calls. RoutingStands site panel (routing_of site.format) calls c.confirm.new.self)
          (confirmation_told site facts kept done panel before output c.args.number plan is same numbered)
          (c.confirm.ensures site panel (routing_of site.format) (routing_calls site facts kept done panel before) h.routing);
      on = h.on;
      sounders = h.sounders;
    }
