use Rattle.caused_zones.proofs.caused_zones.CausedZones.last_call.Goals as goal

pub returns : goal.returns
returns c site kept operations ticks stands less = c.last_call.ensures site kept operations c.args.self.now.taken ticks stands.parts less stands.now
