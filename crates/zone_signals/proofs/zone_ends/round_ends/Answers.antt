use Rattle.std.proofs.Common.{◌∙◌, ◌-◌, Some, ap, inl, inr}
use Rattle.std.proofs.lemmas.Option.{slice_get_within}
use Rattle.site_types.specs.Profile.{round_of}
use Rattle.coincidence_rules.specs.Places.{partner_of, rule_of}
use Rattle.zone_signals.specs.Ended.{by_one, by_pair, by_two}
use Rattle.zone_signals.proofs.RoundsByType.{one_of, pair_of_round, two_of}
use Rattle.zone_signals.proofs.zone_ends.round_ends.Goals as goal

pub returns-in-Plain : goal.returns-in-Plain
returns-in-Plain c at kept done moments known rows =
    let rule = ap rule_of at ∙ ap Some c.in-Plain.is in
    let ends = c.point_ends.ensures (slice_get_within c.args.known.now.site.now.zones c.args.zone c.args.plan.now at) (inl rule) kept done moments known rows in (
      λ held. by_one (ends.0 held),
      λ signal. ends.1 (one_of c.args.known.now.site.now kept done moments c.args.zone c.args.known.now.tick (c.args.known.now.tick - round_of c.args.known.now.site.now.format) (inl rule) signal),
    )

pub returns-in-A : goal.returns-in-A
returns-in-A c at kept done moments known rows =
    let rule = ap rule_of at ∙ ap Some c.in-A.is in
    let ends =
    c.detectors_end.ensures c.in-A.verify
    (record { inside = slice_get_within c.args.known.now.site.now.zones c.args.zone c.args.plan.now at; rule = rule }) kept done moments known rows in (
      λ held. by_two (ends.0 held),
      λ signal. ends.1
          (two_of c.args.known.now.site.now kept done moments c.args.zone c.args.known.now.tick (c.args.known.now.tick - round_of c.args.known.now.site.now.format)
          c.in-A.verify c.in-A.within rule signal),
    )

pub returns-in-B : goal.returns-in-B
returns-in-B c at kept done moments known rows =
    let rule = ap rule_of at ∙ ap Some c.in-B.is in
    let inside = slice_get_within c.args.known.now.site.now.zones c.args.zone c.args.plan.now at in
    let ends = c.pair_ends.ensures (record { inside = inside; is_partner = ap partner_of at; rule = rule }) kept done moments known rows in (
      λ held. by_pair (ends.0 held),
      λ signal. ends.1
          (pair_of_round c.args.known.now.site.now kept done moments c.args.zone c.args.known.now.tick (c.args.known.now.tick - round_of c.args.known.now.site.now.format) c.in-B.within rule signal),
    )

pub returns-in-C : goal.returns-in-C
returns-in-C c at kept done moments known rows =
    let rule = ap rule_of at ∙ ap Some c.in-C.is in
    let ends = c.point_ends-in-C.ensures (slice_get_within c.args.known.now.site.now.zones c.args.zone c.args.plan.now at) (inr rule) kept done moments known rows in (
      λ held. by_one (ends.0 held),
      λ signal. ends.1 (one_of c.args.known.now.site.now kept done moments c.args.zone c.args.known.now.tick (c.args.known.now.tick - round_of c.args.known.now.site.now.format) (inr rule) signal),
    )
