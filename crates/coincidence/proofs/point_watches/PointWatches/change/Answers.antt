use Rattle.std.proofs.Common.{sym, subst, ◌<◌, length}
use Rattle.coincidence.proofs.PlaceSets.{set_those, tells_old}
use Rattle.coincidence.specs.Parts.{is_at_rest, stays_missing}
use Rattle.coincidence.proofs.point_watches.PointWatches.change.Goals as goal

pub mark-requires-clause-was : goal.mark-requires-clause-was
mark-requires-clause-was c =
    let watches = c.self.inside.watches.items in
    let small : c.args.place < length watches = subst (λ xs. c.args.place < length xs) (sym c.self.view_is) c.requires in
    tells_old is_at_rest watches c.args.place c.index_mut-watch.result.now c.note.new.self small c.index_mut-watch.ensures.value c.self.inside.resting
    c.self.invariant.0 c.is_at_rest-rested.result c.is_at_rest-rested.ensures

pub mark-requires-2-clause-was : goal.mark-requires-2-clause-was
mark-requires-2-clause-was c =
    let watches = c.self.inside.watches.items in
    let small : c.args.place < length watches = subst (λ xs. c.args.place < length xs) (sym c.self.view_is) c.requires in
    tells_old stays_missing watches c.args.place c.index_mut-watch.result.now c.note.new.self small c.index_mut-watch.ensures.value c.self.inside.missing
    c.self.invariant.1 c.stays_missing-stayed.result c.stays_missing-stayed.ensures

pub invariant_of-self : goal.invariant_of-self
invariant_of-self c =
    let watches = c.self.inside.watches.items in
    let was = c.index_mut-watch.result.now in
    let is = c.note.new.self in
    let small : c.args.place < length watches = subst (λ xs. c.args.place < length xs) (sym c.self.view_is) c.requires in (
      set_those is_at_rest watches c.args.place was is small c.index_mut-watch.ensures.value c.self.inside.resting c.mark.new.set _ c.self.invariant.0
          c.mark.ensures c.is_at_rest-rests.ensures,
      set_those stays_missing watches c.args.place was is small c.index_mut-watch.ensures.value c.self.inside.missing c.mark-2.new.set _
          c.self.invariant.1 c.mark-2.ensures c.stays_missing-stays.ensures,
    )
