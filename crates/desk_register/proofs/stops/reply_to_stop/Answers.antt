use Rattle.std.proofs.Common.{◌∙◌, ap}
use Rattle.std.specs.Prelude.{Err, option_map}
use Rattle.desk_bodies.specs.declared.refusal.BodyRefusal.{BodyRefusal}
use Rattle.desk_register.specs.Replies.{stop_is_judged}
use Rattle.desk_register.proofs.Replied.{stop_unread}
use Rattle.desk_register.proofs.stops.reply_to_stop.Goals as goal

pub returns-in-Ok : goal.returns-in-Ok
returns-in-Ok c = stop_is_judged (option_map (λ label. label.bytes) c.in-Ok.stop.code) c.in-Ok.ensures.ok c.judge.ensures

pub returns-in-Err : goal.returns-in-Err
returns-in-Err c =
    stop_unread c.args.site.now c.args.body.now c.reply_to_unread.result c.in-Err.refusal c.reply_to_unread.ensures
    (λ is. c.read_stop.ensures.bad (c.in-Err.is ∙ ap (λ (why : BodyRefusal). Err why) is))
