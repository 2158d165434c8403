use Rattle.std.proofs.Common.{arith}
use Rattle.panel_rules.specs.Moments.{moments}
use Rattle.audit_rules.specs.CanCause.{CanTellFault}
use Rattle.blocked_points.specs.Operations.{done_newest_first}
use Rattle.shown_causes.proofs.HeardMasks.{panels_more}
use Rattle.shown_causes.proofs.shown_causes.ShownCauses.faults_heard.Goals as goal

pub loop-place-preserved : goal.loop-place-preserved
loop-place-preserved c site kept operations timeline ticks stands joined =
    panels_more (CanTellFault site timeline kept (done_newest_first operations) (moments ticks) c.args.panel) c.loop-place.place
    c.is_fault_heard-heard.result c.loop-place.mask c.with_bit_8-mask.result (omega arith) c.with_bit_8-mask.ensures.this
    c.with_bit_8-mask.ensures.others (c.is_fault_heard-heard.ensures site kept operations timeline ticks stands joined)
    (c.loop-place.invariant site kept operations timeline ticks stands joined)

pub returns : goal.returns
returns c site kept operations timeline ticks stands joined source one most =
    c.loop-place.invariant site kept operations timeline ticks stands joined source one (omega (arith, most))
