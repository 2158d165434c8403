use Rattle.std.proofs.lemmas.Option.{slice_get_within}
use Rattle.zone_signals.proofs.zone_settled.ZoneSettled.after_tick.Goals as goal

pub returns : goal.returns
returns c at kept done moments known rows calm stands = record {
  by_hand = c.call_since.ensures (slice_get_within c.args.known.now.site.now.zones c.args.zone c.args.plan.now at) kept done moments known rows calm stands.by_hand;
  round = c.round_since.ensures at kept done moments known rows calm stands.round;
  alone = c.alone_since.ensures at kept done moments known rows calm stands.alone;
  second = c.second_since.ensures at kept done moments known rows calm stands.second;
}
