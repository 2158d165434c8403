use Rattle.std.proofs.Common.{◌∙◌, ◌++◌, ◌≤◌, ap, arith, refl}
use Rattle.tick_units.specs.Lane.{LaneState}
use Rattle.site_types.specs.declared.answer.Answer.{Answer}
use Rattle.loop_poller.specs.Asked.{asked_in}
use Rattle.loop_poller.specs.Calls.{told_cable, told_point}
use Rattle.loop_poller.proofs.Places.{asked_few}
use Rattle.panel_rules.specs.Reports.{reports}
use Rattle.plain_words.proofs.Asked.{after_poll, all_moved, is_known}
use Rattle.plain_words.proofs.asking.Asking.poll.Goals as goal

pub take_items-requires : goal.take_items-requires
take_items-requires c =
    let put = c.turn.ensures.asked c.args.site.now c.requires.panel (reports c.args.site.now c.requires.panel c.requires.history) c.requires.stands.told in
    let few : c.turn.new.answers.quota ≤ 32 = omega (arith, ap (λ (l : LaneState Answer). l.quota) put, ap (λ (l : LaneState Answer). l.quota) c.in_ok-lane.ensures) in
    (omega arith, (omega arith, ((c.new-runs.ensures, c.new-batch.ensures), few)))

pub returns : goal.returns
returns c panel history s at =
    let told = reports c.args.site.now panel history in
    let put = c.turn.ensures.asked c.args.site.now panel told s.told in
    let few = asked_few c.args.site.now panel (told_point told) (told_cable told) c.args.tick.0 (is_known c.args.site.now panel history c.args.self.now c.args.self.now s) in
    let moved =
    all_moved (asked_in c.args.site.now panel (told_point told) (told_cable told) c.args.tick.0) c.in_ok-lane.lane c.turn.new.answers
    c.take_items.new.into.items
    (record { empty = c.in_ok-lane.ensures; put = put; few = few }) c.take_items.ensures.moved in
    after_poll c.args.site.now panel history c.args.self.now _ s c.args.tick.0 refl refl refl refl at
    (c.in_ok-extend_from_slice.ensures.items ∙ ap (λ xs. c.args.self.now.answers.items ++ xs) (c.as_slice.ensures.value ∙ moved))
