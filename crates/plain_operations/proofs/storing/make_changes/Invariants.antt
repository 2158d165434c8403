use Rattle.std.proofs.Common.{◌≡◌, drop}
use Rattle.site_types.specs.Changes.{changed_by}
use Rattle.panel_rules.specs.Batches.{changes_of}
use Rattle.plain_operations.specs.Desks.{all_requests}
use Rattle.plain_operations.proofs.storing.make_changes.Given as goal

abbrev pub invariant-loop-request : goal.invariant-loop-request
invariant-loop-request l =
    changed_by (changes_of l.site (all_requests l.waiting)) l.initial.stored
    ≡ changed_by (changes_of l.site (all_requests (drop l.request-index l.waiting))) l.stored
