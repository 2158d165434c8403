use Rattle.std.proofs.Common.{◌≡◌, take}
use Rattle.site_types.specs.Changes.{changed_by}
use Rattle.plain_panel.specs.Keepings.{all_counted}
use Rattle.plain_panel.proofs.keeping.count_entries.Given as goal

abbrev pub invariant-loop-entering : goal.invariant-loop-entering
invariant-loop-entering l = l.stored ≡ changed_by (all_counted (take l.entering-index l.panels)) l.initial.stored
