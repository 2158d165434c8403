use Rattle.std.proofs.Common.{◌≤◌, ◌∙◌, refl, subst, sym, take}
use Rattle.std.specs.Vec.{with_items}
use Rattle.blocked_points.specs.Operations.{done_newest_first}
use Rattle.zone_signals.specs.Floors.{RowsStand}
use Rattle.zone_signals.proofs.FloorsTaken.{floors_go_on}
use Rattle.zone_signals.proofs.PartlyTaken.{written}
use Rattle.zone_signals.proofs.floors.Floors.tick.Goals as goal

pub returns : goal.returns
returns c tick up stands =
    let before = stands.within in
    let from : c.args.self.now.taken ≤ c.count_before-end.result = c.count_before-end.ensures.from before in
    let taken =
    c.take_each.ensures from
    (subst (RowsStand c.args.site.now (done_newest_first (take c.args.self.now.taken c.args.done.now))) (sym c.deref_mut.ensures.value) stands.known) in
    floors_go_on c.args.site.now c.args.done.now tick c.args.now c.count_before-end.result c.args.self.now
    (record { rows = with_items c.args.self.now.rows c.take_each.new.rows; taken = c.count_before-end.result }) refl stands up from
    c.count_before-end.ensures.within c.count_before-end.ensures.earlier c.count_before-end.ensures.later
    (subst (RowsStand c.args.site.now (done_newest_first (take c.count_before-end.result c.args.done.now)))
    (sym (written c.args.self.now.rows c.take_each.new.rows (taken.whole ∙ sym stands.known.whole))) taken)
