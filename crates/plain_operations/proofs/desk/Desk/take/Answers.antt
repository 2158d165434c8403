use Rattle.std.proofs.Common.{◌≡◌, ◌∙◌, ◌+◌, ap, arith, length, sym}
use Rattle.panel_rules.specs.Operations.{and_request}
use Rattle.plain_operations.specs.Desks.{all_requests}
use Rattle.plain_operations.proofs.Desks.{request_more}
use Rattle.plain_operations.proofs.desk.Desk.take.Goals as goal

pub returns-in_ok-push-clause-more : goal.returns-in_ok-push-clause-more
returns-in_ok-push-clause-more c =
    let next : c.len.result + 1 ≡ length c.args.self.now.requests.items + 1 = omega (arith, c.len.ensures, c.args.self.now.requests.ok) in
    request_more c.args.tick c.in-Op.panel c.level_by-level.result c.in-Op.operation c.args.self.now.requests.items c.deref.result.now _ _
    c.count_in-earlier.result _ c.deref.ensures.value
    c.count_in-earlier.ensures next c.level_by-level.ensures c.in_ok-push.ensures.items
    ∙ sym (ap (λ event. and_request c.args.site.now c.args.tick.0 event (all_requests c.args.self.now.requests.items)) c.in-Op.is)
