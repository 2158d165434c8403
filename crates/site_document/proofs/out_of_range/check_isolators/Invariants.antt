use Rattle.std.proofs.Common.{◌≡◌, ◌+◌, drop}
use Rattle.toml.specs.View.{items_view}
use Rattle.site_document.specs.Ranges.{first_fall}
use Rattle.site_document.proofs.out_of_range.check_isolators.Given as goal

abbrev pub invariant-items : goal.invariant-items
invariant-items l =
    first_fall l.place l.before l.end (l.index + 1) (items_view (drop l.index l.items)) ≡ first_fall l.place 0 l.end 1 (items_view l.items)
