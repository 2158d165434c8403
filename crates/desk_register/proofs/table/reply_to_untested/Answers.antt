use Rattle.std.proofs.Common.{◌∙◌, ap, refl}
use Rattle.std.specs.Prelude.{Err}
use Rattle.service_register.specs.declared.refusal.RegisterRefusal.{RegisterRefusal}
use Rattle.desk_register.specs.Replies.{sides_of, table_is_made}
use Rattle.desk_register.proofs.Replied.{list_refused, not_point_of_keeper}
use Rattle.desk_register.proofs.table.reply_to_untested.Goals as goal

pub returns-in-Ok-clause-answers : goal.returns-in-Ok-clause-answers
returns-in-Ok-clause-answers g c = table_is_made c.in-Ok.table c.in-Ok.ensures.ok refl

pub reply_to_refusal-requires : goal.reply_to_refusal-requires
reply_to_refusal-requires g c = not_point_of_keeper c.in-Err.refusal c.in-Err.ensures.refusals

pub returns-in-Err-clause-answers : goal.returns-in-Err-clause-answers
returns-in-Err-clause-answers g c =
    list_refused c.args.register.now c.args.day (sides_of g.R.Keeper.tables g.R.Keeper.faults c.args.keeper.now c.table_of.new.keeper)
    c.reply_to_refusal.result c.in-Err.refusal c.reply_to_refusal.ensures c.in-Err.ensures.refusals
    (λ is. c.table_of.ensures.cause.failed (c.in-Err.is ∙ ap (λ (why : RegisterRefusal). Err why) is))
