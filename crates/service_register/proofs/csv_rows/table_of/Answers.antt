use Rattle.std.proofs.Common.{◌≡◌, [], Some, ap, map, ◌∙◌}
use Rattle.csv.specs.Writing.{text_written}
use Rattle.service_keepers.specs.Tables.{Tables}
use Rattle.service_register.specs.Export.{Writes, csv_text, header_text, rows_text}
use Rattle.service_register.specs.Listed.{listed_row}
use Rattle.service_register.proofs.Rows.{begins, finished, follows_told}
use Rattle.service_register.proofs.csv_rows.table_of.Goals as goal

pub returns-in-Ok-clause-ok : goal.returns-in-Ok-clause-ok
returns-in-Ok-clause-ok g c =
    let points = map listed_row c.args.points.now in
    let places = c.args.places.now in
    let bytes = c.in-Ok.bytes.items in
    let fresh = c.from_writer-writer.ensures in
    let start = begins (λ v. Some v.items) c.from_writer-writer.result c.new-2.result fresh.fields fresh.wrote (fresh.cfg ∙ c.new.ensures) fresh.wtr
    fresh.empty (ap Some c.new-2.ensures.items) in
    let header = c.in_ok-write_row.ensures.ok [] start in
    follows_told (λ (kept : Tables). Writes (λ v. Some v.items) c.write_row.new.writer c.write_points.new.writer (rows_text kept points places))
    (λ (kept : Tables). bytes ≡ csv_text kept points places) (g.R.Keeper.tables c.args.keeper.now) c.in_ok-write_points.ensures.ok
    (λ kept rows. finished (text_written (λ v. Some v.items) c.write_points.new.writer) (csv_text kept points places) bytes
    (rows header_text header).written c.in-Ok.ensures.ok)
