use Rattle.std.proofs.Common.{◌≤◌, ◌+◌, ◌∷◌, length, arith, subst, sym}
use Rattle.site_types.specs.declared.event.Event.TheVariants.{Cable}
use Rattle.panel_rules.specs.Moments.{Happened}
use Rattle.field_states.proofs.LineLists.{ToldBelow, told_all, told_at, told_none}
use Rattle.field_states.proofs.Reaching.{got_item}
use Rattle.field_states.proofs.lines.report.Goals as goal
use Rattle.field_states.proofs.lines.report.Goals.{in-None, in-Some}

pub loop-place-init : goal.loop-place-init
loop-place-init c before are = told_none c.args.plans.now before _ c.args.lines.now are

pub loop-place-preserved : goal.loop-place-preserved
loop-place-preserved c before are =
    let plans = c.args.plans.now in
    let n = c.loop-place.place in
    let now = c.loop-place.invariant before are in
    let size = now.size in
    elim c.match-get.branch [
      | in-None w ↦ (let past : length plans ≤ n = w.in-None.ensures.lookup.3 in absurd (omega arith))
      | in-Some w ↦
          (let lookup = w.in-Some.ensures.lookup in
          subst (ToldBelow plans before (Happened (Cable c.args.panel c.args.line c.args.piece c.args.state) ∷ before) (n + 1)) (sym w.lines-is)
          (told_at plans before (Happened (Cable c.args.panel c.args.line c.args.piece c.args.state) ∷ before) n c.loop-place.lines w.in-Some.plan.now _
          w.report_to.new.cable (omega arith) (got_item plans n w.in-Some.plan.now lookup.3.0 lookup.1) (w.report_to.ensures before) now))
    ]

pub returns : goal.returns
returns c before are =
    told_all c.args.plans.now before _ c.loop-place.place c.loop-place.lines (omega arith) (c.loop-place.invariant before are)
