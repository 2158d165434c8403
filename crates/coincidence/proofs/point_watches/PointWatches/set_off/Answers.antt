use Rattle.std.proofs.Common.{◌<◌, length, ap, sym, subst}
use Rattle.coincidence.proofs.PlaceSets.{keep_those}
use Rattle.coincidence.specs.Parts.{is_at_rest, stays_missing}
use Rattle.coincidence.proofs.point_watches.PointWatches.set_off.Goals as goal

pub invariant_of-self : goal.invariant_of-self
invariant_of-self c =
    let watches = c.self.inside.watches.items in
    let was = c.index_mut.result.now in
    let is = c.set_off.new.self in
    let small : c.args.place < length watches = subst (λ xs. c.args.place < length xs) (sym c.self.view_is) c.requires.place in (
      keep_those is_at_rest watches c.args.place was is small c.index_mut.ensures.value c.self.inside.resting c.self.invariant.0
          (ap is_at_rest c.set_off.ensures),
      keep_those stays_missing watches c.args.place was is small c.index_mut.ensures.value c.self.inside.missing c.self.invariant.1
          (ap stays_missing c.set_off.ensures),
    )
