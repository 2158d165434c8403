use Rattle.std.proofs.Common.{◌≤◌, ◌∙◌, arith}
use Rattle.site_types.specs.Done.{floor_before}
use Rattle.zone_signals.specs.Pairs.{ArePairBars}
use Rattle.zone_signals.proofs.PairsEnd.{of_second, partner_within, second_of}
use Rattle.zone_signals.proofs.signals.second_ends.Goals as goal

pub returns : goal.returns
returns c type kept done moments known rows =
    let site = c.args.known.now.site.now in
    let now = c.args.known.now.tick in
    let one : 1 ≤ c.round_start-start.result = (let past = c.if-start-eq0.false in omega (arith, past)) in
    let own = c.floor_of-own.ensures site done now rows type.inside in
    let most = c.max-both.ensures in
    let bars : ArePairBars site c.args.zone c.args.partner (λ other. floor_before site other now done) c.floor_of-own.result c.max-both.result = record {
      is_partner = type.is_partner;
      alone = own;
      across = λ other is.
          (let there = c.partner_floor.ensures site done now other rows (partner_within site c.args.zone other known.valid (type.is_partner ∙ is)) is in
          omega (arith, own, there, most));
    } in (
      λ held. second_of site kept done moments c.args.zone now c.round_start-start.result known.told.some c.round_start-start.ensures one type.rule
          ((c.pair_held.ensures (λ other. floor_before site other now done) bars kept done moments known).0 held),
      λ signal. (c.pair_held.ensures (λ other. floor_before site other now done) bars kept done moments known).1
          (of_second site kept done moments c.args.zone now c.round_start-start.result known.told.some c.round_start-start.ensures signal),
    )
