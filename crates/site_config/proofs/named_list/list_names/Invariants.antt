use Rattle.std.proofs.Common.{◌≡◌, ◌++◌, map}
use Rattle.site_config.specs.NamedList.{entries_view, named_view}
use Rattle.site_config.proofs.named_list.list_names.Given as goal

abbrev pub invariant-entries : goal.invariant-entries
invariant-entries l = map named_view l.listed.items ++ entries_view l.name-iterator ≡ entries_view l.fn.names.entries
