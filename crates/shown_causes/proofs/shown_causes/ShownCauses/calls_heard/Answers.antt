use Rattle.std.proofs.Common.{◌∙◌, ap, arith, sym}
use Rattle.std.specs.Option.{option_copied}
use Rattle.panel_rules.specs.Moments.{moments}
use Rattle.audit_rules.specs.CanCause.{CanBeHeardByHand}
use Rattle.blocked_points.specs.Operations.{done_newest_first}
use Rattle.shown_causes.proofs.HeardMasks.{no_item, zone_told}
use Rattle.shown_causes.proofs.shown_causes.ShownCauses.calls_heard.Goals as goal
use Rattle.shown_causes.proofs.shown_causes.ShownCauses.calls_heard.Goals.{in-None, in-Some}

pub loop-place-preserved : goal.loop-place-preserved
loop-place-preserved c kept operations timeline ticks stands joined =
    elim c.match-get.branch [
      | in-None w ↦ absurd (no_item c.args.site.now.zones c.loop-place.place (omega arith) (sym c.get.ensures ∙ ap option_copied w.in-None.is))
      | in-Some w ↦
          zone_told c.args.site.now (CanBeHeardByHand c.args.site.now timeline kept (done_newest_first operations) (moments ticks) c.args.panel) c.loop-place.place _
          w.is_call_heard-heard.result _ _ _ w.masks-is (sym c.get.ensures ∙ ap option_copied w.in-Some.is)
          (w.set_zone.ensures c.args.site.now c.loop-place.place c.requires.site) (w.is_call_heard-heard.ensures c.args.site.now kept operations timeline ticks stands joined)
          (c.loop-place.invariant kept operations timeline ticks stands joined)
    ]

pub returns : goal.returns
returns c kept operations timeline ticks stands joined zone less =
    c.loop-place.invariant kept operations timeline ticks stands joined zone (omega (arith, less)) less
