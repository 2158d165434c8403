use Rattle.std.proofs.Common.{◌≡◌, ◌+◌, drop}
use Rattle.toml.specs.View.{items_view}
use Rattle.site_document.specs.WrongKind.{first_misfit}
use Rattle.site_document.proofs.wrong_kind.first_misfit.Given as goal

abbrev pub invariant-items : goal.invariant-items
invariant-items l = first_misfit l.form (l.index + 1) (items_view (drop l.index l.items)) ≡ first_misfit l.form 1 (items_view l.items)
