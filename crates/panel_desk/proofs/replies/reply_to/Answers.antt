use Rattle.std.proofs.Common.{◌≡◌, ◌∙◌, refl, sym, subst}
use Rattle.desk_register.specs.Replies.{AnswersStop, AnswersUntested, AnswersVisit, sides_of}
use Rattle.panel_desk.proofs.Replied.{replied_as, same_site, without_tick}
use Rattle.panel_desk.specs.Replies.{AnswersBlock, Replies}
use Rattle.panel_desk.specs.declared.reply.Reply.TheVariants.{Face, Profile, Other}
use Rattle.desk_requests.specs.declared.route.Route.TheVariants as route
use Rattle.panel_rules.specs.Moments.{IsPanel}
use Rattle.service_register.specs.Points.{points_of}
use Rattle.site_run.specs.Outside.{disks_of}
use Rattle.site_types.specs.Valid.{IsValid}
use Rattle.desk_ticks.specs.Blocks.{verdict_of}
use Rattle.panel_desk.specs.Acting.{IsOfSite}
use Rattle.panel_desk.proofs.replies.reply_to.Goals as goal

pub returns-in-Face-clause-replies : goal.returns-in-Face-clause-replies
returns-in-Face-clause-replies g c site kept ticks stands room =
    let r = c.requires.may in
    let disks = disks_of g.D.Disk.honest g.D.Disk.images g.D.Disk.moment g.D.Disk.left_since c.args.disk.now c.args.disk.now in
    let of = subst (λ route. IsOfSite r.site route) c.in-Face.is r.of in
    let sides = sides_of g.R.Keeper.tables g.R.Keeper.faults c.args.keeper.now c.args.keeper.now in
    without_tick (λ after. Replies site c.args.route c.args.body.now sides ticks after (Face c.in-Face.panel)) site kept ticks disks (Face c.in-Face.panel) c.args.run.now refl stands
    (subst (λ asked. Replies site asked c.args.body.now sides ticks ticks (Face c.in-Face.panel)) (sym c.in-Face.is) (refl, (refl, refl)))
    (subst (λ s. IsPanel s.panels c.in-Face.panel) (same_site r.site site r.kept kept _ _ c.args.run.now r.stands stands) of)

pub returns-in-Table-clause-replies : goal.returns-in-Table-clause-replies
returns-in-Table-clause-replies g c site kept ticks stands room =
    let disks = disks_of g.D.Disk.honest g.D.Disk.images g.D.Disk.moment g.D.Disk.left_since c.args.disk.now c.args.disk.now in
    let sides = sides_of g.R.Keeper.tables g.R.Keeper.faults c.args.keeper.now c.args.keeper.now in
    without_tick (λ after. Replies site c.args.route c.args.body.now sides ticks after Profile) site kept ticks disks Profile c.args.run.now refl stands
    (subst (λ asked. Replies site asked c.args.body.now sides ticks ticks Profile) (sym c.in-Table.is) (refl, (refl, refl))) tt

pub returns-in-Ticks-clause-replies : goal.returns-in-Ticks-clause-replies
returns-in-Ticks-clause-replies g c site kept ticks stands room =
    let disks = disks_of g.D.Disk.honest g.D.Disk.images g.D.Disk.moment g.D.Disk.left_since c.args.disk.now c.reply_to_block.new.disk in
    let sides = sides_of g.R.Keeper.tables g.R.Keeper.faults c.args.keeper.now c.args.keeper.now in
    let reply = c.reply_to_block.result in
    replied_as (λ after. AnswersBlock site c.args.body.now ticks after (verdict_of site c.args.body.now) reply)
    (λ after. Replies site c.args.route c.args.body.now sides ticks after reply) site kept ticks disks reply c.args.run.now c.reply_to_block.new.run
    (λ after does. subst (λ asked. Replies site asked c.args.body.now sides ticks after reply) (sym c.in-Ticks.is) (refl, does))
    (c.reply_to_block.ensures.replies site kept ticks stands room)

pub returns-in-Visits-clause-replies : goal.returns-in-Visits-clause-replies
returns-in-Visits-clause-replies g c site kept ticks stands room =
    let disks = disks_of g.D.Disk.honest g.D.Disk.images g.D.Disk.moment g.D.Disk.left_since c.args.disk.now c.args.disk.now in
    let same = c.site.ensures site kept _ stands in
    let sides = sides_of g.R.Keeper.tables g.R.Keeper.faults c.args.keeper.now c.reply_to_visit.new.keeper in
    let answers = subst (λ s. AnswersVisit s c.args.body.now sides c.reply_to_visit.result) same c.reply_to_visit.ensures.answers in
    let reply = Other c.reply_to_visit.result in
    without_tick (λ after. Replies site c.args.route c.args.body.now sides ticks after reply) site kept ticks disks reply c.args.run.now refl stands
    (subst (λ asked. Replies site asked c.args.body.now sides ticks ticks reply) (sym c.in-Visits.is) (c.reply_to_visit.result, answers, (refl, refl))) tt

pub returns-in-Untested-clause-replies : goal.returns-in-Untested-clause-replies
returns-in-Untested-clause-replies g c site kept ticks stands room =
    let r = c.requires.may in
    let disks = disks_of g.D.Disk.honest g.D.Disk.images g.D.Disk.moment g.D.Disk.left_since c.args.disk.now c.args.disk.now in
    let sides = sides_of g.R.Keeper.tables g.R.Keeper.faults c.args.keeper.now c.reply_to_untested.new.keeper in
    let points = subst (λ s. c.args.register.now ≡ points_of s) (same_site r.site site r.kept kept _ _ c.args.run.now r.stands stands) r.points_are in
    let answers =
    subst (λ ps. AnswersUntested ps c.in-Untested.day sides c.reply_to_untested.result) points c.reply_to_untested.ensures.answers in
    let reply = Other c.reply_to_untested.result in
    without_tick (λ after. Replies site c.args.route c.args.body.now sides ticks after reply) site kept ticks disks reply c.args.run.now refl stands
    (subst (λ asked. Replies site asked c.args.body.now sides ticks ticks reply) (sym c.in-Untested.is)
    (c.reply_to_untested.ensures.same, (c.reply_to_untested.result, answers, (refl, refl)))) tt

pub returns-in-Stop-clause-replies : goal.returns-in-Stop-clause-replies
returns-in-Stop-clause-replies g c site kept ticks stands room =
    let disks = disks_of g.D.Disk.honest g.D.Disk.images g.D.Disk.moment g.D.Disk.left_since c.args.disk.now c.args.disk.now in
    let same = c.site-in-Stop.ensures site kept _ stands in
    let answers = subst (λ s. AnswersStop s c.args.body.now c.reply_to_stop.result) same c.reply_to_stop.ensures in
    let sides = sides_of g.R.Keeper.tables g.R.Keeper.faults c.args.keeper.now c.args.keeper.now in
    let reply = Other c.reply_to_stop.result in
    without_tick (λ after. Replies site c.args.route c.args.body.now sides ticks after reply) site kept ticks disks reply c.args.run.now refl stands
    (subst (λ asked. Replies site asked c.args.body.now sides ticks ticks reply) (sym c.in-Stop.is) (refl, (c.reply_to_stop.result, answers, (refl, refl)))) tt

pub reply_to_visit-requires-clause-valid : goal.reply_to_visit-requires-clause-valid
reply_to_visit-requires-clause-valid g c =
    let r = c.requires.may in
    subst IsValid (sym (c.site.ensures r.site r.kept _ r.stands)) r.stands.valid

pub reply_to_visit-requires-clause-listed : goal.reply_to_visit-requires-clause-listed
reply_to_visit-requires-clause-listed g c =
    let r = c.requires.may in
    subst (λ s. c.args.register.now ≡ points_of s) (sym (c.site.ensures r.site r.kept _ r.stands)) r.points_are
