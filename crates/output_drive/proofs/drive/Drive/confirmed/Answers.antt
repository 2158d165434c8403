use Rattle.std.proofs.Common.{◌∙◌}
use Rattle.site_types.specs.Profile.{routing_of}
use Rattle.output_calls.specs.RoutingCalls.{routing_calls}
use Rattle.output_calls.proofs.OutputMasks.{confirmed_mask}
use Rattle.output_drive.proofs.drive.Drive.confirmed.Goals as goal

pub returns : goal.returns
returns c site facts kept done panel before h valid run events =
    c.confirmed.ensures site panel (routing_of site.format) (routing_calls site facts kept done panel before) h.routing
    ∙ confirmed_mask site facts kept done (routing_of site.format) panel before valid run events
