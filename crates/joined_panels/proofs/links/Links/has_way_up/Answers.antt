use Rattle.std.proofs.Common.{◌≡◌, ◌<◌, ◌+◌, ◌-◌, ◌%◌, true, false, get_or, sym, ◌∙◌, ap, subst, arith}
use Rattle.joined_panels.proofs.LinksUp.{one_down, one_more}
use Rattle.joined_panels.specs.Links.{are_up, is_link_up}
use Rattle.panel_rules.specs.Ring.{links_between}
use Rattle.joined_panels.proofs.links.Links.has_way_up.Goals as goal

pub loop-step-preserved : goal.loop-step-preserved
loop-step-preserved c =
    let links = c.args.self.now in
    let place = (c.args.from + c.loop-step.step - 1) % links.panels in
    let same : place + 1 - 1 ≡ place = omega arith in
    one_more (is_link_up links) links.panels c.args.from c.loop-step.step c.loop-step.invariant
    (ap (λ k. get_or links.up k false) same ∙ c.if-not-self-link.false)

pub returns-then-not-self-link : goal.returns-then-not-self-link
returns-then-not-self-link c =
    let links = c.args.self.now in
    let place = (c.args.from + c.loop-step.step - 1) % links.panels in
    let same : place + 1 - 1 ≡ place = omega arith in
    let between = links_between links.panels c.args.from c.args.to in
    let within : c.loop-step.step < between = rw c.saturating_sub.ensures at c.loop-step-test.true in
    sym (one_down (is_link_up links) links.panels c.args.from between c.loop-step.step within
    (ap (λ k. get_or links.up k false) same ∙ c.if-not-self-link.true))

pub returns : goal.returns
returns c =
    let links = c.args.self.now in
    let between = links_between links.panels c.args.from c.args.to in
    let counted : c.saturating_sub.result % links.panels ≡ between = ap (λ k. k % links.panels) c.saturating_sub.ensures in
    let all : c.loop-step.step ≡ between = omega (arith, counted) in
    sym (subst (λ n. are_up (is_link_up links) links.panels c.args.from n ≡ true) all c.loop-step.invariant)
