use Rattle.std.proofs.Common.{◌≡◌}
use Rattle.toml.specs.View.{members_view}
use Rattle.site_document.specs.Unknown.{unknown_among}
use Rattle.site_document.proofs.unknown.check_unknown.Given as goal

abbrev pub invariant-members : goal.invariant-members
invariant-members l =
    unknown_among l.place (members_view l.table.entries) (members_view l.name-iterator)
    ≡ unknown_among l.place (members_view l.table.entries) (members_view l.table.entries)
