use Rattle.std.proofs.Common.{◌≤◌, ◌∙◌, arith}
use Rattle.zone_signals.specs.Pairs.{ArePairBars}
use Rattle.zone_signals.proofs.PairsEnd.{of_pair, pair_bar, pair_of, partner_within}
use Rattle.zone_signals.proofs.signals.pair_ends.Goals as goal

pub returns : goal.returns
returns c type kept done moments known rows =
    let site = c.args.known.now.site.now in
    let now = c.args.known.now.tick in
    let one : 1 ≤ c.round_start-start.result = (let past = c.if-start-eq0.false in omega (arith, past)) in
    let own_undone = c.undone.ensures site done now rows type.inside in
    let early = c.too_early-early.ensures in
    let own = c.max-own.ensures in
    let most = c.max-both.ensures in
    let bars : ArePairBars site c.args.zone c.args.partner (pair_bar site done now c.args.within) c.max-own.result c.max-both.result = record {
      is_partner = type.is_partner;
      alone = omega (arith, own_undone, early, own);
      across = λ other is.
          (let other_undone = c.partner_undone.ensures site done now other rows (partner_within site c.args.zone other known.valid (type.is_partner ∙ is)) is in
          omega (arith, own_undone, other_undone, early, own, most));
    } in (
      λ held. pair_of site kept done moments c.args.zone now c.round_start-start.result known.told.some c.round_start-start.ensures c.args.within one type.rule
          ((c.pair_held.ensures (pair_bar site done now c.args.within) bars kept done moments known).0 held),
      λ signal. (c.pair_held.ensures (pair_bar site done now c.args.within) bars kept done moments known).1
          (of_pair site kept done moments c.args.zone now c.round_start-start.result known.told.some c.round_start-start.ensures c.args.within type.rule signal),
    )
