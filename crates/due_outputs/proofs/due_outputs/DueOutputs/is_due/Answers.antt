use Rattle.std.proofs.Common.{◌≡◌, length, refl, subst}
use Rattle.std.specs.Prelude.{Some, slice_get}
use Rattle.std.proofs.lemmas.Option.{slice_get_read}
use Rattle.due_outputs.proofs.TicksTaken.{due_is}
use Rattle.due_outputs.proofs.due_outputs.DueOutputs.is_due.Goals as goal

pub returns-in-Some : goal.returns-in-Some
returns-in-Some c site kept done ticks stands at =
    let run = c.in-Some.run'.now in
    let found = c.in-Some.ensures.lookup in
    let is =
    subst (λ runs. slice_get runs c.args.place ≡ Some run) c.deref.ensures.value
    (slice_get_read c.deref.result.now (length c.deref.result.now) c.args.place run refl found.3.0 found.1) in
    due_is site kept done ticks c.args.place c.args.self.now.latest.0 c.args.output.now run at stands.tick (stands.each c.args.place run is)
    c.is_over.result c.is_over.ensures
