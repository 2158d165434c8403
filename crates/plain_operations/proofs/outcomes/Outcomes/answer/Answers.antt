use Rattle.plain_operations.proofs.Desks.{answered_ok}
use Rattle.plain_operations.proofs.outcomes.Outcomes.answer.Goals as goal

pub returns-clause-became : goal.returns-clause-became
returns-clause-became c =
    answered_ok c.and_done.result _ c.args.self.now.answers.items _ _ _ c.args.request.now c.in-Some.reply c.args.reply c.in-Some.is
    c.in_ok-push-2.ensures.items c.and_done.ensures.became
