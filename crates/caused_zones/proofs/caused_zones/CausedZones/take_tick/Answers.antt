use Rattle.std.proofs.Common.{◌∷◌, ◌∙◌, add-one, arith, length, subst}
use Rattle.caused_zones.specs.Stands.{AreTakenBefore}
use Rattle.caused_zones.proofs.SignalRuns.{told_by_runs}
use Rattle.caused_zones.proofs.Taken.{taken_on}
use Rattle.caused_zones.proofs.caused_zones.CausedZones.take_tick.Goals as goal

pub returns : goal.returns
returns c kept ticks tick valid ordered next runs stands =
    let done = c.args.done.now in
    let end = c.count_before-end.result in
    let within = stands.are_taken.within in
    let count = c.count_before-end.ensures in
    let are = taken_on done (length ticks) c.args.now.0 c.args.self.now.taken end stands.are_taken (omega (arith, next)) count.within count.earlier
    count.later in
    record {
      round = stands.round;
      now = next ∙ add-one (length ticks);
      are_taken = subst (λ n. AreTakenBefore done n end) (next ∙ add-one (length ticks)) are;
      parts = c.answer.ensures kept done end ticks tick valid ordered stands.round next are
          (told_by_runs c.args.site.now kept done (tick ∷ ticks) c.args.runs.now runs)
          (c.undo_each.ensures kept ticks (count.from within)
          (λ place d low high at. (let before = count.earlier place d low high at in let after = stands.are_taken.later place d low at in
          omega (arith, before, after, next))) stands.parts);
    }
