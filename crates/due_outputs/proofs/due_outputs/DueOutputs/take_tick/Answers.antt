use Rattle.std.proofs.Common.{◌∙◌, ◌+◌, ap, length, refl, subst, sym}
use Rattle.std.proofs.lemmas.List.{with_items_is}
use Rattle.std.specs.Vec.{with_items}
use Rattle.due_outputs.specs.Runs.{TakeRuns}
use Rattle.due_outputs.proofs.TicksTaken.{taken}
use Rattle.due_outputs.proofs.due_outputs.DueOutputs.take_tick.Goals as goal

pub returns : goal.returns
returns c kept done tick ticks free stands now are =
    let site = c.args.site.now in
    let panels = c.go_over_each.new.panels in
    let value = c.deref_mut.ensures.value in
    let gone = c.go_over_each.ensures site c.requires stands.solved in
    let sized = c.take_runs.ensures (ap length value ∙ stands.size) in
    let runs =
    subst (λ n. TakeRuns site panels n c.args.self.now.runs.items c.take_runs.new.runs) now
    (subst (λ old. TakeRuns site panels c.args.now.0 old c.take_runs.new.runs) value sized) in
    taken site kept done tick ticks c.requires.table.valid free c.args.due.now panels c.told-due are gone c.args.self.now
    (record { latest = c.args.now; panels = panels; runs = with_items c.args.self.now.runs c.take_runs.new.runs }) stands now refl
    (subst (TakeRuns site panels (length ticks + 1) c.args.self.now.runs.items)
    (sym (with_items_is c.args.self.now.runs c.take_runs.new.runs (sized.size ∙ c.deref_mut.ensures.len))) runs)
