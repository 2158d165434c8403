use Rattle.zone_signals.proofs.zones_held.two_held.Goals as goal

pub returns : goal.returns
returns c kept done moments known =
    c.has_two_held_after.ensures kept done moments c.args.zone known.told (c.places_of.ensures c.args.known.now.site.now known.valid known.listed)
