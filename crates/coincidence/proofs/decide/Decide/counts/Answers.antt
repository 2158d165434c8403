use Rattle.std.proofs.Common.{◌∙◌, ap, ◌&&◌, ◌||◌, not}
use Rattle.coincidence_rules.specs.Counted.{is_alarm}
use Rattle.coincidence.specs.Parts.{switch_at}
use Rattle.coincidence.proofs.Watched.{off_since, zone_off_since, test_since}
use Rattle.coincidence.proofs.Judged.{counted_is}
use Rattle.coincidence.proofs.decide.Decide.counts.Goals as goal

pub is_on-off-requires : goal.is_on-off-requires
is_on-off-requires c = off_since c.requires.may.stands c.args.answer.now c.requires.may.may c.args.point.now c.requires.read.point_is

pub is_on-zone_off-requires : goal.is_on-zone_off-requires
is_on-zone_off-requires c =
    zone_off_since c.requires.may.stands c.args.answer.now c.requires.may.may c.args.point.now c.args.zone.now c.requires.read.point_is
    c.requires.read.zone_is

pub is_on-test-requires : goal.is_on-test-requires
is_on-test-requires c =
    test_since c.requires.may.stands c.args.answer.now c.requires.may.may c.args.point.now c.args.zone.now c.requires.read.point_is
    c.requires.read.zone_is

pub returns : goal.returns
returns c site kept panel done taken stands fits =
    let heard = c.args.answer.now.heard in
    c.counts_unless.ensures
    ∙ ap (λ b. is_alarm heard && not (b || (c.is_on-zone_off.result || c.is_on-test.result))) c.is_on-off.ensures
    ∙ ap (λ b. is_alarm heard && not (switch_at c.args.answer.now.stamp.0 c.args.point.now.off || (b || c.is_on-test.result)))
    c.is_on-zone_off.ensures
    ∙ ap (λ b. is_alarm heard
    && not (switch_at c.args.answer.now.stamp.0 c.args.point.now.off
    || (switch_at c.args.answer.now.stamp.0 c.args.zone.now.off || b))) c.is_on-test.ensures
    ∙ counted_is stands c.args.answer.now fits c.args.point.now c.args.zone.now c.requires.read.point_is c.requires.read.zone_is
