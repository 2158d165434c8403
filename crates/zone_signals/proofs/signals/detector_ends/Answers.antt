use Rattle.std.proofs.Common.{◌≡◌, ◌+◌, ◌-◌, ◌<◌, ◌∙◌, ap, arith}
use Rattle.site_types.specs.Done.{floor_before}
use Rattle.site_types.specs.Profile.{round_of}
use Rattle.zone_signals.proofs.SignalsEnd.{detector_below, detector_of, of_detector}
use Rattle.zone_signals.proofs.signals.detector_ends.Goals as goal

pub returns-then-floor-first : goal.returns-then-floor-first
returns-then-floor-first c within type kept done moments known rows =
    let round : c.round-round.result ≡ round_of c.args.known.now.site.now.format = c.round-round.ensures ∙ ap round_of c.profile.ensures in
    let less = c.saturating_sub.ensures in
    let from = c.saturating_sub-first.ensures in
    let first : c.saturating_sub-first.result
    ≡ c.args.known.now.tick - (c.args.verify + (round_of c.args.known.now.site.now.format + round_of c.args.known.now.site.now.format) - 1) = omega (arith, round, less, from) in (
      λ never. absurd (cc),
      λ signal. absurd
          (let low = detector_below c.args.known.now.site.now kept done moments c.args.zone c.args.known.now.tick c.saturating_sub-first.result c.args.verify within known.told.some
          first type.rule signal in
          let is = c.floor_of-floor.ensures c.args.known.now.site.now done c.args.known.now.tick rows type.inside in
          let past = c.if-floor-first.true in
          omega (arith, low, is, past)),
    )

pub returns : goal.returns
returns c within type kept done moments known rows =
    let round : c.round-round.result ≡ round_of c.args.known.now.site.now.format = c.round-round.ensures ∙ ap round_of c.profile.ensures in
    let some = known.told.some in
    let less = c.saturating_sub.ensures in
    let from = c.saturating_sub-first.ensures in
    let first : c.saturating_sub-first.result
    ≡ c.args.known.now.tick - (c.args.verify + (round_of c.args.known.now.site.now.format + round_of c.args.known.now.site.now.format) - 1) = omega (arith, round, less, from) in
    let is = c.floor_of-floor.ensures c.args.known.now.site.now done c.args.known.now.tick rows type.inside in
    let past = c.if-floor-first.false in
    let below : floor_before c.args.known.now.site.now c.args.zone c.args.known.now.tick done < c.saturating_sub-first.result = omega (arith, is, past) in
    let lasts = c.one_lasts.ensures (omega (arith, below)) (omega (arith, below, first, some)) kept done moments known in (
      λ held. detector_of c.args.known.now.site.now kept done moments c.args.zone c.args.known.now.tick c.saturating_sub-first.result c.args.verify within some first type.rule below
          (lasts.0 held),
      λ signal. lasts.1
          (of_detector c.args.known.now.site.now kept done moments c.args.zone c.args.known.now.tick c.saturating_sub-first.result c.args.verify within some first type.rule signal),
    )
