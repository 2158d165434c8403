use Rattle.std.proofs.Common.{◌≡◌, ◌++◌, drop}
use Rattle.toml.specs.View.{items_view}
use Rattle.site_document.specs.Drafts.{collected}
use Rattle.site_document.proofs.collect.collect.Given as goal

abbrev pub invariant-values : goal.invariant-values
invariant-values g l =
    l.items.items ++ collected g.T.FromValue.read (items_view (drop l.value-index l.values)) ≡ collected g.T.FromValue.read (items_view l.values)
