use Rattle.std.proofs.Common.{◌∙◌, Some, ap}
use Rattle.std.proofs.lemmas.Option.{slice_get_within}
use Rattle.coincidence_rules.specs.Places.{rule_of}
use Rattle.zone_signals.proofs.zone_ends.alone_ends.Goals as goal

pub returns-in-A : goal.returns-in-A
returns-in-A c at =
    c.detector_ends.ensures c.in-A.within
    (record { inside = slice_get_within c.args.known.now.site.now.zones c.args.zone c.args.plan.now at; rule = ap rule_of at ∙ ap Some c.in-A.is })
