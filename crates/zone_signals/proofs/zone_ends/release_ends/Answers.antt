use Rattle.std.proofs.Common.{◌∙◌, Some, ap}
use Rattle.std.proofs.lemmas.Option.{slice_get_within}
use Rattle.coincidence_rules.specs.Places.{partner_of, rule_of}
use Rattle.zone_signals.proofs.zone_ends.release_ends.Goals as goal

pub returns-in-C : goal.returns-in-C
returns-in-C c at =
    c.second_ends.ensures
    (record {
      inside = slice_get_within c.args.known.now.site.now.zones c.args.zone c.args.plan.now at;
      is_partner = ap partner_of at;
      rule = ap rule_of at ∙ ap Some c.in-C.is;
    })
