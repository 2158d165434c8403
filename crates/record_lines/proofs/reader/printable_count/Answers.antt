use Rattle.std.proofs.Common.{◌∙◌, ap, sym, take}
use Rattle.std.specs.Prelude.{slice_get}
use Rattle.std.specs.List.{list_all}
use Rattle.std.proofs.lemmas.List.{take_rest}
use Rattle.record_lines.specs.Lines.{is_printable}
use Rattle.record_lines.proofs.Fronts.{behind_at, front_behind}
use Rattle.record_lines.proofs.reader.printable_count.Goals as goal

pub returns-clause-front : goal.returns-clause-front
returns-clause-front c =
    let text = c.args.text.now in
    let scanned = c.printable_eights-scanned.result in
    let singles = c.printable_singles.result in
    front_behind is_printable text scanned singles c.printable_eights-scanned.ensures.front
    (ap (λ rest. list_all is_printable (take singles rest)) (sym (take_rest text scanned)) ∙ c.printable_singles.ensures.front)

pub returns-clause-stops : goal.returns-clause-stops
returns-clause-stops c byte is =
    let text = c.args.text.now in
    let scanned = c.printable_eights-scanned.result in
    let singles = c.printable_singles.result in
    c.printable_singles.ensures.stops byte
    (ap (λ rest. slice_get rest singles) (take_rest text scanned) ∙ behind_at text scanned singles byte is)
