use Rattle.std.proofs.Common.{◌∙◌, ap, refl}
use Rattle.std.specs.Prelude.{Err}
use Rattle.desk_bodies.specs.Views.{visit_view}
use Rattle.desk_bodies.specs.declared.refusal.BodyRefusal.{BodyRefusal}
use Rattle.desk_register.specs.Replies.{sides_of, visit_is_judged}
use Rattle.desk_register.proofs.Replied.{visit_unread}
use Rattle.desk_register.proofs.SaidPlaces.{said_places}
use Rattle.desk_register.proofs.visits.reply_to_visit.Goals as goal

pub judge-requires-clause-places : goal.judge-requires-clause-places
judge-requires-clause-places g c =
    said_places c.args.site.now c.requires.valid c.args.body.now (visit_view c.in-Ok.visit) c.in-Ok.ensures.ok

pub returns-in-Ok-clause-answers : goal.returns-in-Ok-clause-answers
returns-in-Ok-clause-answers g c = visit_is_judged (visit_view c.in-Ok.visit) c.in-Ok.ensures.ok c.judge.ensures.answers

pub returns-in-Err-clause-answers : goal.returns-in-Err-clause-answers
returns-in-Err-clause-answers g c =
    visit_unread c.args.site.now c.args.body.now (sides_of g.R.Keeper.tables g.R.Keeper.faults c.args.keeper.now c.args.keeper.now)
    c.reply_to_unread.result c.in-Err.refusal refl c.reply_to_unread.ensures
    (λ is. c.read_visit.ensures.bad (c.in-Err.is ∙ ap (λ (why : BodyRefusal). Err why) is))
