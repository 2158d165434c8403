use Rattle.std.proofs.Common.{◌∙◌, ap, sym}
use Rattle.site_types.specs.Changes.{changed_by}
use Rattle.panel_rules.specs.Batches.{changes_of}
use Rattle.plain_operations.specs.Desks.{all_requests}
use Rattle.std.proofs.lemmas.List.{drop_all}
use Rattle.plain_operations.proofs.ChangesMade.{next_made}
use Rattle.plain_operations.proofs.storing.make_changes.Goals as goal

pub loop-request-preserved : goal.loop-request-preserved
loop-request-preserved c =
    c.loop-request.invariant
    ∙ next_made c.args.site.now c.args.waiting.now c.loop-request.request-index _ c.loop-request.stored c.make_change_of.new.stored
    c.loop-request-test.true c.make_change_of.ensures

pub returns : goal.returns
returns c =
    sym (c.loop-request.invariant ∙ ap (λ xs. changed_by (changes_of c.args.site.now (all_requests xs)) c.loop-request.stored)
    (drop_all c.loop-request.request-index c.args.waiting.now c.loop-request-test.false))
