use Rattle.std.proofs.Common.{◌≡◌, ◌∙◌, ap, arith, length, refl, subst}
use Rattle.std.specs.Prelude.{Err}
use Rattle.service_keepers.specs.Keeping.{ChangesBy}
use Rattle.service_register.specs.declared.refusal.RegisterRefusal.{RegisterRefusal}
use Rattle.desk_bodies.specs.Views.{visit_view}
use Rattle.desk_register.specs.Replies.{level_is_enough, level_is_too_low, sides_of}
use Rattle.desk_register.proofs.Replied.{Takes, denied_at, enough_at, low_at, not_point_of_visit, put_done, put_refused}
use Rattle.desk_register.proofs.visits.judge.Goals as goal

pub returns-then-level-lt-NEEDED_LEVEL-clause-answers : goal.returns-then-level-lt-NEEDED_LEVEL-clause-answers
returns-then-level-lt-NEEDED_LEVEL-clause-answers g c =
    level_is_too_low (low_at c.level_by-level.result _ c.level_by-level.ensures c.if-level-lt-NEEDED_LEVEL.true) refl
    (denied_at c.level_by-level.result _ c.denied.result c.level_by-level.ensures c.denied.ensures)

pub returns-in-Ok-clause-answers : goal.returns-in-Ok-clause-answers
returns-in-Ok-clause-answers g c =
    let said = visit_view c.args.visit.now in
    let sides = sides_of g.R.Keeper.tables g.R.Keeper.faults c.args.keeper.now c.put_visit.new.keeper in
    let counts : c.len.result ≡ length c.args.visit.now.points.items = omega arith in
    level_is_enough (enough_at c.level_by-level.result _ c.level_by-level.ensures c.if-level-lt-NEEDED_LEVEL.false)
    (put_done c.args.site.now said sides c.done.result c.len.result c.put_visit.result c.in-Ok.is c.put_visit.ensures.takes counts
    c.done.ensures)

pub reply_to_refusal-requires : goal.reply_to_refusal-requires
reply_to_refusal-requires g c = not_point_of_visit c.in-Err.refusal c.in-Err.ensures.refusals

pub returns-in-Err-clause-answers : goal.returns-in-Err-clause-answers
returns-in-Err-clause-answers g c =
    let said = visit_view c.args.visit.now in
    let sides = sides_of g.R.Keeper.tables g.R.Keeper.faults c.args.keeper.now c.put_visit.new.keeper in
    let takes = subst (λ result. ChangesBy (Takes c.args.site.now said result) sides.before sides.after) c.in-Err.is c.put_visit.ensures.takes in
    level_is_enough (enough_at c.level_by-level.result _ c.level_by-level.ensures c.if-level-lt-NEEDED_LEVEL.false)
    (put_refused c.args.site.now said sides c.reply_to_refusal.result c.in-Err.refusal c.reply_to_refusal.ensures takes c.in-Err.ensures.other
    (λ is. c.put_visit.ensures.cause.failed (c.in-Err.is ∙ ap (λ (why : RegisterRefusal). Err why) is)))
