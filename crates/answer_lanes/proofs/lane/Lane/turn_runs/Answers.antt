use Rattle.std.proofs.Common.{◌≡◌, ◌∙◌, ap, arith, subst, sym, All, length, take}
use Rattle.std.proofs.lemmas.List.Elements.{All-take}
use Rattle.tick_units.specs.Lane.{LaneState, turn_count}
use Rattle.answer_lanes.specs.Runs.{HoldsItems, all_items}
use Rattle.answer_lanes.proofs.Passing.{whole_front}
use Rattle.answer_lanes.proofs.lane.Lane.turn_runs.Goals as goal

pub returns-clause-shown : goal.returns-clause-shown
returns-clause-shown g c =
    let item_at = g.S.Several.item_at in
    let l = c.self.inside in
    let lane = c.args.self.now in
    let whole = c.whole_runs-whole in
    let is = c.as_slice-runs.ensures in
    let items = ap (λ (l : LaneState _). l.items) c.self.view_is in
    let quota = ap (λ (l : LaneState _). l.quota) c.self.view_is in
    let size = ap length items in
    let few = whole.ensures.few in
    let all = c.if-whole-self.false in
    let more = c.if-len-self.false in
    let long = c.len.ensures.length in
    let count : l.quota ≡ turn_count lane = omega (arith, quota, more, long) in
    record {
      moved =
          whole_front item_at c.as_slice-runs.result.now l.quota whole.result.runs whole.result.items whole.ensures (omega (arith, few, all))
          ∙ ap (λ runs. take l.quota (all_items item_at runs)) is ∙ ap (take l.quota) items ∙ ap (λ n. take n lane.items) count;
      held = All-take HoldsItems whole.result.runs c.as_slice-runs.result.now (subst (All HoldsItems) (sym is) c.self.invariant.held);
    }
