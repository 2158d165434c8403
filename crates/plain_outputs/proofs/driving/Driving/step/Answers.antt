use Rattle.std.proofs.Common.{◌∷◌, List, subst, sym}
use Rattle.plain_outputs.specs.declared.seen.Seen.{Seen}
use Rattle.plain_outputs.specs.Drives.{AreSeen}
use Rattle.plain_history.specs.Histories.{moment_of}
use Rattle.plain_outputs.proofs.Looking.{seen_more}
use Rattle.plain_outputs.proofs.driving.Driving.step.Goals as goal

pub returns : goal.returns
returns c facts_of history stands are =
    let site = c.args.site.now in
    let moment = moment_of c.args.moment.now in
    let seen = subst (λ (xs : List Seen). AreSeen site facts_of xs history) (sym {A = List Seen} c.as_slice.ensures.value) stands in
    let tick = c.ticks.ensures site facts_of history seen in
    let more = seen_more site facts_of c.args.self.now.seen.items c.of.result moment history (c.of.ensures facts_of history tick are) stands in
    subst (λ (xs : List Seen). AreSeen site facts_of xs (moment ∷ history)) (sym c.in_ok-push.ensures.items) more
