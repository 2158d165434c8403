use Rattle.std.proofs.Common.{◌-◌, ap, arith}
use Rattle.site_types.specs.declared.site.Site.{Site}
use Rattle.panel_core.proofs.Backwards.{next_panel_back, none_yet, panel_turned_back, reversed_counted, reversed_made, reversed_marked}
use Rattle.panel_core.proofs.system.System.reversed_turns.Goals as goal

pub loop-before-init : goal.loop-before-init
loop-before-init g c = record { turned = none_yet c.args.self.now.site.panels c.args.self.now c.args.steps.now }

pub turn_panel_back-requires : goal.turn_panel_back-requires
turn_panel_back-requires g c =
    let l = c.loop-before in
    next_panel_back l.before c.args.self.now l.self c.args.steps.now l.steps c.loop-before-test.true c.requires l.invariant.turned

pub loop-before-preserved : goal.loop-before-preserved
loop-before-preserved g c =
    let l = c.loop-before in
    let new = c.turn_panel_back.new in
    record {
      turned = panel_turned_back l.before c.args.self.now.site.panels c.args.self.now l.self new.self c.args.steps.now l.steps new.steps
          c.loop-before-test.true l.invariant.turned (record {
            turns = c.turn_panel_back.ensures.turns;
            marks = c.turn_panel_back.ensures.marks;
            steps = c.turn_panel_back.ensures.steps;
          });
    }

pub returns-clause-turns : goal.returns-clause-turns
returns-clause-turns g c =
    let l = c.loop-before in
    let past = c.loop-before-test.false in
    let panels = c.args.self.now.site.panels in
    reversed_made panels (panels - l.before) (omega (arith, past)) c.args.self.now l.self c.args.steps.now l.steps l.invariant.turned

pub returns-clause-steps : goal.returns-clause-steps
returns-clause-steps g c =
    let l = c.loop-before in
    let past = c.loop-before-test.false in
    let panels = c.args.self.now.site.panels in
    reversed_counted panels (panels - l.before) (omega (arith, past)) c.args.self.now l.self c.args.steps.now l.steps l.invariant.turned

pub returns-clause-marks : goal.returns-clause-marks
returns-clause-marks g c =
    let l = c.loop-before in
    let past = c.loop-before-test.false in
    let panels = c.args.self.now.site.panels in
    reversed_marked panels (panels - l.before) (omega (arith, past)) c.args.self.now l.self c.args.steps.now l.steps l.invariant.turned

pub returns-clause-few : goal.returns-clause-few
returns-clause-few g c =
    let same = ap (λ (s : Site). s.panels) c.requires.stands.same in
    let few = c.requires.stands.valid.forms.panels.1 in
    omega (arith, same, few)
