use Rattle.std.proofs.Common.{◌∙◌, sym}
use Rattle.std.proofs.lemmas.Slice.Eq.{bytes_eq-Decides}
use Rattle.record_lines.proofs.PrintedNames.{entry_point}
use Rattle.record_lines.proofs.named_points.point_named.Goals as goal

pub returns-then-eq : goal.returns-then-eq
returns-then-eq c =
    let found = c.in_ok-named.ensures.lookup.3 in
    let same = (bytes_eq-Decides c.as_bytes.result.now c.args.name.now).0 (sym c.if-eq.ensures) in
    entry_point c.args.site.now c.requires c.as_slice-names.result.now c.place_of.result c.in_ok-named.named.now c.in-Point.point c.args.name.now
    c.as_slice-names.ensures found.0 (found.1 c.in_ok-named.named.now) c.in-Point.is (sym (c.as_bytes.ensures.value ∙ c.as_str.ensures.value) ∙ same)
