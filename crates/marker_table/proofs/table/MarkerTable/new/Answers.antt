use Rattle.std.proofs.Common.{◌≡◌, ◌+◌, ◌++◌, ◌∷◌, [], sym, subst, ap, ◌∙◌, take}
use Rattle.std.proofs.lemmas.List.{take_more}
use Rattle.marker_table.specs.Table.{AreRowsOf}
use Rattle.marker_table.proofs.Rows.{row_pushed}
use Rattle.marker_table.proofs.table.MarkerTable.new.Goals as goal

pub loop-marker-preserved : goal.loop-marker-preserved
loop-marker-preserved c =
    let site = c.args.site.now in
    let items = c.as_slice-marker-items.result.now in
    let k = c.loop-marker.marker-index in
    let marker = c.marker-item.result in
    let front : take (k + 1) site.markers ≡ take k site.markers ++ marker ∷ [] =
    ap (take (k + 1)) (sym c.as_slice-marker-items.ensures) ∙
    (take_more items k marker c.loop-marker-test.true ∙
    (ap (λ m. take k items ++ m ∷ []) (sym c.marker-item.is) ∙ ap (λ ms. take k ms ++ marker ∷ []) c.as_slice-marker-items.ensures)) in
    subst (λ ms. AreRowsOf site ms c.push.new.self.items) (sym front)
    (subst (AreRowsOf site (take k site.markers ++ marker ∷ [])) (sym c.in_ok-push.ensures.items)
    (row_pushed site (take k site.markers) c.loop-marker.rows.items marker c.in_ok-of.field-0 c.loop-marker.invariant c.in_ok-of.ensures))
