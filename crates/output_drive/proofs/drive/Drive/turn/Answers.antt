use Rattle.std.proofs.Common.{◌-◌, ◌∙◌, subst, sym}
use Rattle.std.specs.Prelude.{not}
use Rattle.site_types.specs.Bits.{has_bit}
use Rattle.site_types.specs.Profile.{routing_of}
use Rattle.sounder_control.specs.Stands.{StandsFor as SilenceStands}
use Rattle.output_delays.specs.Overrides.{AllUpTo}
use Rattle.output_delays.specs.Runs.{overrides_of}
use Rattle.output_delays.specs.Stands.{StandsFor as DelaysStand}
use Rattle.routing_outputs.specs.Stands.{StandsFor as RoutingStands}
use Rattle.output_calls.specs.DelayCalls.{delay_calls}
use Rattle.output_calls.specs.RoutingCalls.{routing_calls}
use Rattle.output_calls.specs.SilenceCalls.{silence_calls}
use Rattle.output_calls.proofs.OutputMasks.{overrides_over}
use Rattle.output_drive.proofs.Turning.{delays_told, on_is, quiet_is, routing_told, silence_told, through_is}
use Rattle.output_drive.proofs.drive.Drive.turn.Goals as goal

pub returns : goal.returns
returns c site facts kept done panel before h valid falls told =
    let tick = c.args.now.0 in
    let requests = c.args.requests.now in
    let released = c.args.released.now in
    let active = not (has_bit kept.delays_off (panel - 1)) in
    let silences = silence_calls site facts done panel before in
    let delays = delay_calls site facts done panel before in
    let up = subst (λ t. AllUpTo t (overrides_of delays)) (sym told.at) (overrides_over site facts done panel before) in
    let on =
    on_is site facts kept done panel before c.turn-through.result c.args.off c.without_32-enabled.result c.kept_off.result c.args.self.now.sounders
    c.without_32-self.result c.quiet-quiet.result
    (c.turn-through.ensures.value site panel active delays h.delays up ∙ through_is site facts kept done panel before valid falls tick requests told.at told.asked)
    told.disabled (c.quiet-quiet.ensures.value silences h.silence ∙ quiet_is site facts kept done panel before valid falls released told.zones) h.sounders
    c.without_32-enabled.ensures c.kept_off.ensures c.without_32-self.ensures in
    record {
      silence =
          subst (λ calls. SilenceStands calls c.quiet-quiet.new.self) (silence_told site facts kept done panel before released told.zones)
          (c.quiet-quiet.ensures.stands silences h.silence);
      delays =
          subst (λ calls. DelaysStand site panel active calls c.turn-through.new.self)
          (delays_told site facts kept done panel before tick requests told.at told.asked) (c.turn-through.ensures.stands site panel active delays h.delays);
      routing =
          subst (λ calls. RoutingStands site panel (routing_of site.format) calls c.turn.new.self)
          (routing_told site facts kept done panel before tick c.without_32-self.result told.at on)
          (c.turn.ensures site panel (routing_of site.format) (routing_calls site facts kept done panel before) h.routing);
      on = on;
      sounders = h.sounders;
    }
