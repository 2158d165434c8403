use Rattle.plain_operations.proofs.Desks.{is_done}
use Rattle.plain_operations.proofs.outcomes.and_done.Goals as goal

pub returns-in_ok-push-clause-became : goal.returns-in_ok-push-clause-became
returns-in_ok-push-clause-became c =
    is_done c.args.request.now c.args.reply c.args.done.now.items _ c.done_in.result c.in-WasDone.is c.done_in.ensures c.in_ok-push.ensures.items
