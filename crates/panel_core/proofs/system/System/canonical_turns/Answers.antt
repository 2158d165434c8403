use Rattle.std.proofs.Common.{◌≡◌, ap, arith, subst}
use Rattle.tick_units.specs.Orders.{seats_of_panels}
use Rattle.site_types.specs.declared.site.Site.{Site}
use Rattle.panel_core.proofs.InLine.{HaveTurned, canonical_counted, canonical_made, canonical_marked, next_panel, none_turned, panel_turned}
use Rattle.panel_core.proofs.system.System.canonical_turns.Goals as goal

pub loop-before-init : goal.loop-before-init
loop-before-init g c = record { turned = none_turned c.args.self.now c.args.steps.now }

pub turn_panel-requires : goal.turn_panel-requires
turn_panel-requires g c =
    let l = c.loop-before in
    next_panel l.before c.args.self.now l.self c.args.steps.now l.steps c.loop-before-test.true c.requires l.invariant.turned

pub loop-before-preserved : goal.loop-before-preserved
loop-before-preserved g c =
    let l = c.loop-before in
    let new = c.turn_panel.new in
    record {
      turned = panel_turned l.before c.args.self.now l.self new.self c.args.steps.now l.steps new.steps l.invariant.turned (record {
        turns = c.turn_panel.ensures.turns;
        marks = c.turn_panel.ensures.marks;
        steps = c.turn_panel.ensures.steps;
      });
    }

pub returns-clause-turns : goal.returns-clause-turns
returns-clause-turns g c =
    let l = c.loop-before in
    let past = c.loop-before-test.false in
    let all : l.before ≡ c.args.self.now.site.panels = omega (arith, past) in
    canonical_made c.args.self.now.site.panels c.args.self.now l.self c.args.steps.now l.steps
    (subst (λ n. HaveTurned c.args.self.now c.args.steps.now (seats_of_panels n) l.self l.steps) all l.invariant.turned)

pub returns-clause-steps : goal.returns-clause-steps
returns-clause-steps g c =
    let l = c.loop-before in
    let past = c.loop-before-test.false in
    let all : l.before ≡ c.args.self.now.site.panels = omega (arith, past) in
    canonical_counted c.args.self.now.site.panels c.args.self.now l.self c.args.steps.now l.steps
    (subst (λ n. HaveTurned c.args.self.now c.args.steps.now (seats_of_panels n) l.self l.steps) all l.invariant.turned)

pub returns-clause-marks : goal.returns-clause-marks
returns-clause-marks g c =
    let l = c.loop-before in
    let past = c.loop-before-test.false in
    let all : l.before ≡ c.args.self.now.site.panels = omega (arith, past) in
    canonical_marked c.args.self.now.site.panels c.args.self.now l.self c.args.steps.now l.steps
    (subst (λ n. HaveTurned c.args.self.now c.args.steps.now (seats_of_panels n) l.self l.steps) all l.invariant.turned)

pub returns-clause-few : goal.returns-clause-few
returns-clause-few g c =
    let same = ap (λ (s : Site). s.panels) c.requires.stands.same in
    let few = c.requires.stands.valid.forms.panels.1 in
    omega (arith, same, few)
