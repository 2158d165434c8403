use Rattle.zone_signals.proofs.zones_held.one_lasts.Goals as goal

pub returns : goal.returns
returns c one past kept done moments known =
    c.has_detector_since.ensures c.args.zone (c.places_of.ensures c.args.known.now.site.now known.valid known.listed) one past kept done moments known.told
