use Rattle.std.proofs.Common.{◌≡◌, ◌+◌, ◌-◌, arith, subst, ◌∙◌}
use Rattle.std.proofs.lemmas.List.{length-set}
use Rattle.panel_rules.specs.Moments.{moments}
use Rattle.due_zones.specs.Telling.{AreDueZones, TellsDue}
use Rattle.due_zones.proofs.EachPanel.{one_place_more}
use Rattle.due_zones.proofs.due_zones.due_at_each.Goals as goal

pub loop-place-preserved : goal.loop-place-preserved
loop-place-preserved c = (
  length-set c.loop-place.each c.loop-place.place c.due_at.result ∙ c.loop-place.invariant.0,
  one_place_more (λ place due. TellsDue c.args.site.now c.args.joined.now c.args.now.0 c.args.signals.now (place + 1) due) c.loop-place.each
      c.loop-place.place c.due_at.result
      (let size = c.loop-place.invariant.0 in let less = c.loop-place-test.true in omega (arith, size, less)) c.due_at.ensures c.loop-place.invariant.1,
)

pub returns : goal.returns
returns c kept done ticks stands now have panel due is at =
    let past = c.loop-place-test.false in
    let low = is.0 in
    let high = is.1 in
    let most = c.requires.valid.forms.panels.1 in
    let same : panel - 1 + 1 ≡ panel = omega (arith, low) in
    subst (λ p. AreDueZones c.args.site.now kept done (moments ticks) p due) same
    (c.loop-place.invariant.1 (panel - 1) due (omega (arith, past, low, high, most)) at kept done ticks stands now have)
