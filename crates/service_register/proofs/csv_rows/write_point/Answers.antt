use Rattle.std.proofs.Common.{◌≡◌, ◌∙◌, Some, sym, ap}
use Rattle.service_register.specs.Export.{last_text}
use Rattle.service_register.proofs.Rows.{same_row}
use Rattle.service_register.proofs.csv_rows.write_point.Goals as goal

pub returns-in-Some-clause-ok : goal.returns-in-Some-clause-ok
returns-in-Some-clause-ok c =
    let name = c.as_bytes-name.ensures.value ∙ c.as_str.ensures.value in
    let zone = c.as_bytes-zone.ensures.value ∙ c.as_str-2.ensures.value in
    let last : c.as_bytes.result.now ≡ last_text c.args.last = c.as_bytes.ensures.value ∙ c.format.ensures.text ∙ sym (ap last_text c.in-Some.is) in
    same_row (λ v. Some v.items) c.write_row.result c.args.writer.now c.write_row.new.writer _ _ _ _ _ _ name zone last c.write_row.ensures.ok

pub returns-in-None-clause-ok : goal.returns-in-None-clause-ok
returns-in-None-clause-ok c =
    let name = c.as_bytes-name.ensures.value ∙ c.as_str.ensures.value in
    let zone = c.as_bytes-zone.ensures.value ∙ c.as_str-2.ensures.value in
    same_row (λ v. Some v.items) c.write_row-in-None.result c.args.writer.now c.write_row-in-None.new.writer _ _ _ _ _ _ name zone
    (sym (ap last_text c.in-None.is)) c.write_row-in-None.ensures.ok
