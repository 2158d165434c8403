use Rattle.std.proofs.Common.{◌≡◌, false, true, sym, ◌∙◌}
use Rattle.answer_lanes.proofs.FindingRuns.{set_none, set_some}
use Rattle.answer_lanes.proofs.finding_group.FindingGroup.set.Goals as goal

pub returns-then-tells_none : goal.returns-then-tells_none
returns-then-tells_none c =
    set_none c.args.self.now c.args.place c.args.finding.now c.requires c.with_place-self.result c.with_place-self-then-tells_none.result
    c.with_place-self.ensures (c.tells_none.ensures.none c.if-tells_none.true) c.with_place-self-then-tells_none.ensures

both : true ≡ false → ⊥
both e = cc

pub returns : goal.returns
returns c =
    set_some c.args.self.now c.args.place c.args.finding.now c.requires c.with_place-self.result c.with_place-self-2.result
    c.with_place-self.ensures (λ none. both (sym (c.tells_none.ensures.some none) ∙ c.if-tells_none.false)) c.with_place-self-2.ensures
