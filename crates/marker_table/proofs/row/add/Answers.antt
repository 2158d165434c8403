use Rattle.std.proofs.Common.{subst}
use Rattle.marker_table.specs.Table.{AddsInputAt}
use Rattle.marker_table.proofs.Rows.{replaced}
use Rattle.marker_table.proofs.row.add.Goals as goal

pub returns-in-Some : goal.returns-in-Some
returns-in-Some c =
    replaced c.args.input c.args.masks.now.items c.in-Some.place c.in-Some.mask
    (subst (λ masks. AddsInputAt c.args.input masks (c.in-Some.place, c.in-Some.mask)) c.as_slice.ensures.value c.in-Some.ensures)
