use Rattle.std.proofs.Common.{◌≡◌, ◌+◌, ◌*◌, ◌%◌, ◌<◌, arith, get_or, ap, ◌∙◌}
use Rattle.std.proofs.lemmas.Nat.{mod_below}
use Rattle.std.proofs.lemmas.Option.{slice_get-get_or}
use Rattle.tick_units.specs.Lane.{LaneState}
use Rattle.site_types.specs.declared.answer.Answer.{Answer}
use Rattle.site_types.specs.Profile.{round_of}
use Rattle.loop_poller.specs.Asked.{asked_in, asked_on}
use Rattle.loop_poller.specs.Calls.{told_cable, told_point}
use Rattle.loop_poller.proofs.Lanes.{put_line}
use Rattle.loop_poller.proofs.Lines.{knows_points}
use Rattle.loop_poller.proofs.Places.{asked_few}
use Rattle.loop_poller.proofs.poller.Poller.ask_lines.Goals as goal

pub ask-requires-clause-room : goal.ask-requires-clause-room
ask-requires-clause-room c =
    let room = c.requires.room in
    c.loop-line.invariant.room 8 (omega (arith, room.0), omega (arith, room.1))

pub ask-requires-clause-within : goal.ask-requires-clause-within
ask-requires-clause-within c =
    let some = c.requires.stands in
    let k = c.loop-line.line-index in
    let lines = c.args.self.now.lines in
    let size = (some.asks.lines k (get_or lines k c.line-item.result) (slice_get-get_or lines k c.line-item.result (omega arith))).points.size in
    let known = some.asks.valid.forms.format.0 in
    let round : round_of c.args.self.now.profile.format ≡ round_of some.site.format = ap round_of some.asks.format in
    let below : c.args.now.0 % round_of some.site.format < round_of some.site.format =
    mod_below c.args.now.0 (round_of some.site.format) (omega (arith, known)) in
    let first = c.requires.first ∙ ap (λ r. (c.args.now.0 % r) * 8 + 1) round in
    omega (arith, size, first, below)

pub ask-requires-clause-known : goal.ask-requires-clause-known
ask-requires-clause-known c place point h =
    let some = c.requires.stands in
    let k = c.loop-line.line-index in
    let lines = c.args.self.now.lines in
    let stands = some.asks.lines k (get_or lines k c.line-item.result) (slice_get-get_or lines k c.line-item.result (omega arith)) in
    let below = knows_points some.site some.panel (k + 1) _ stands.points place point h in
    let states = some.asks.states.size in
    omega (arith, below, states)

pub loop-line-preserved : goal.loop-line-preserved
loop-line-preserved c =
    let k = c.loop-line.line-index in
    let lines = c.args.self.now.lines in
    record {
      room = λ n room. c.ask.ensures.room n (c.loop-line.invariant.room (n + 8) (omega (arith, room.0), omega (arith, room.1)));
      put = λ site panel calls stands.
          let line = stands.lines k (get_or lines k c.line-item.result) (slice_get-get_or lines k c.line-item.result (omega arith)) in
          let from : c.args.first ≡ 8 * (c.args.now.0 % round_of site.format) + 1 =
          c.requires.first ∙ ap (λ r. (c.args.now.0 % r) * 8 + 1) (ap round_of stands.format) ∙ omega arith in
          put_line (asked_on site panel (told_point calls) (told_cable calls) c.args.now.0) k c.args.answers.now c.loop-line.answers c.ask.new.answers
          (c.loop-line.invariant.put site panel calls stands)
          (c.ask.ensures.put site panel (k + 1) (told_point calls) (told_cable calls) stands.valid line
          stands.states from);
    }

pub returns-clause-asked : goal.returns-clause-asked
unfolding asked_in
returns-clause-asked c site panel calls stands =
    let all : c.loop-line.line-index ≡ 4 = omega arith in
    rw all at (c.loop-line.invariant.put site panel calls stands.asks)

pub returns-clause-few : goal.returns-clause-few
unfolding asked_in
returns-clause-few c =
    let some = c.requires.stands in
    let all : c.loop-line.line-index ≡ 4 = omega arith in
    let put = rw all at (c.loop-line.invariant.put some.site some.panel some.calls some.asks) in
    let few = asked_few some.site some.panel (told_point some.calls) (told_cable some.calls) c.args.now.0 some.asks.valid.forms.format.0 in
    omega (arith, ap (λ (l : LaneState Answer). l.put) put, few)
