use Rattle.std.proofs.Common.{[], ◌≡◌, arith, length, subst, sym}
use Rattle.operation_desk.specs.Replies.{AreInForce}
use Rattle.site_types.specs.declared.retained.Retained.{Retained}
use Rattle.site_types.specs.Changes.{IsSized}
use Rattle.settings_shown.specs.Shown.{HasNoStrangeBits}
use Rattle.settings_shown.proofs.OwnCarried.{opened_in_force, opened_own, opened_sized}
use Rattle.settings_shown.proofs.opening.settings_at_opening.Goals as goal

pub returns-clause-no_strange_bits : goal.returns-clause-no_strange_bits
returns-clause-no_strange_bits c =
    let kept = c.args.kept.now in
    subst (λ (s : Retained). HasNoStrangeBits c.args.site.now (record s { delays_off = kept.delays_off; counters = kept.counters }))
    (sym c.carry-settings.ensures) (opened_own c.args.site.now c.requires kept)

pub returns-clause-in_force : goal.returns-clause-in_force
returns-clause-in_force c =
    let kept = c.args.kept.now in
    subst (λ (s : Retained). AreInForce c.args.site.now kept 0 [] (record s { delays_off = kept.delays_off; counters = kept.counters }))
    (sym c.carry-settings.ensures) (opened_in_force c.args.site.now c.requires kept)

pub returns-clause-sized : goal.returns-clause-sized
returns-clause-sized c =
    let kept = c.args.kept.now in
    let eight : length kept.counters ≡ 8 = omega arith in
    subst (λ (s : Retained). IsSized (record s { delays_off = kept.delays_off; counters = kept.counters })) (sym c.carry-settings.ensures)
    (opened_sized c.args.site.now c.requires kept eight)
