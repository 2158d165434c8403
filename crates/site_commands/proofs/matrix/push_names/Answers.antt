use Rattle.std.proofs.Common.{◌≡◌, ◌++◌, [], Some, ap, sym, ◌∙◌, append_assoc, take, if◌then◌else◌}
use Rattle.std.specs.Prelude.{codes, slice_get}
use Rattle.std.proofs.lemmas.Option.{slice_get-get_or}
use Rattle.marker_table.specs.Equations.{values_of}
use Rattle.site_commands.specs.Matrix.{names_asked}
use Rattle.site_commands.proofs.Matrices.{names_next}
use Rattle.site_commands.proofs.matrix.push_names.Goals as goal

pub loop-output-preserved : goal.loop-output-preserved
loop-output-preserved c =
    let outputs = c.args.outputs.now in
    let k = c.loop-output.output-index in
    let values = values_of c.args.values.now in
    let output = c.output-item.result in
    let name = if values output.marker then codes " " ++ output.name.bytes else [] in
    let at : slice_get outputs k ≡ Some output = slice_get-get_or outputs k output c.loop-output-test.true ∙ ap Some (sym c.output-item.is) in
    c.in_ok-push_name.ensures ∙
    (ap (λ b. c.loop-output.text.items ++ (if b then codes " " ++ output.name.bytes else [])) c.is_true.ensures ∙
    (ap (λ xs. xs ++ name) c.loop-output.invariant ∙
    (append_assoc c.args.text.now.items (names_asked values (take k outputs)) name ∙
    ap (λ xs. c.args.text.now.items ++ xs) (sym (names_next values outputs k output at)))))
