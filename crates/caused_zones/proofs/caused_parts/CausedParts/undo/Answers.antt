use Rattle.blocked_points.specs.Operations.{as_done}
use Rattle.caused_zones.proofs.PartSteps.{each_put, parts_undone}
use Rattle.caused_zones.proofs.caused_parts.CausedParts.undo.Goals as goal

pub returns : goal.returns
returns c kept all taken before at stand =
    parts_undone c.args.site.now kept all taken before (as_done c.args.done.now) c.args.self.now _ at
    (each_put _ c.args.self.now.marks c.deref_mut.result.now c.undo_marks.new.marks c.deref_mut.ensures.value c.undo_marks.ensures)
    (each_put _ c.args.self.now.alarms c.deref_mut-2.result.now c.undo_causes.new.causes c.deref_mut-2.ensures.value c.undo_causes.ensures)
    (each_put _ c.args.self.now.by_hand c.deref_mut-3.result.now c.undo_causes-2.new.causes c.deref_mut-3.ensures.value c.undo_causes-2.ensures)
    stand
