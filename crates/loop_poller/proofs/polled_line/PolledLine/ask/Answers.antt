use Rattle.std.proofs.Common.{◌≡◌, ◌∙◌, ap, sym, ◌+◌, ◌-◌, ◌%◌, ◌<◌, ◌++◌, ◌∷◌, [], length, arith, Some, None, option_map, ◌/◌, slice_get}
use Rattle.std.specs.List.{filter_map, range_with_len}
use Rattle.tick_units.specs.Lane.{with_put}
use Rattle.site_types.specs.Profile.{round_of}
use Rattle.loop_poller.specs.Asked.{answer_from, answer_of, heard_of, is_reached_on, point_at}
use Rattle.loop_poller.specs.Stands.{IsSoundGroup}
use Rattle.site_types.specs.Things.{loop_of}
use Rattle.loop_poller.proofs.Filling.{read_at}
use Rattle.loop_poller.proofs.Lanes.{got_more, got_same, put-nil, put_some, put_none}
use Rattle.loop_poller.proofs.Lines.{nothing_asked, on_loop, point_there}
use Rattle.loop_poller.proofs.FollowingPoints.{if_some}
use Rattle.loop_poller.proofs.GroupAnswers.{group_asked, group_within}
use Rattle.loop_poller.proofs.Windows.{asked_window, group_of, is_asked_here, range-more}
use Rattle.loop_poller.proofs.polled_line.PolledLine.ask.Goals as goal
use Rattle.loop_poller.proofs.polled_line.PolledLine.ask.Goals.{in-Some-index, in_default-index}

pub at-requires : goal.at-requires
at-requires c =
    let within : c.loop-address.address - 1 < length c.args.self.now.points.items = omega arith in
    c.requires.known (c.loop-address.address - 1) c.in-Some-index.point
    (read_at c.args.self.now.points.items (c.loop-address.address - 1) c.index.result.now None within c.index.ensures ∙ c.in-Some-index.is)

pub returns-then-is_none-clause-put : goal.returns-then-is_none-clause-put
returns-then-is_none-clause-put c site panel line points cables valid stands states from =
    sym (ap (with_put c.args.answers.now) (nothing_asked site panel line points cables c.args.now.0 c.args.self.now valid stands c.if-is_none.ensures)
    ∙ put-nil c.args.answers.now)

pub returns-in-Some-clause-room : goal.returns-in-Some-clause-room
returns-in-Some-clause-room c n room = c.put_answers.ensures.room n room

pub returns-in-Some-clause-put : goal.returns-in-Some-clause-put
returns-in-Some-clause-put c site panel line points cables valid stands states from =
    let group = c.in-Some.group in
    let sound = if_some (IsSoundGroup c.args.self.now c.args.first) c.sound_group.result group c.sound_group.ensures c.in-Some.is in
    let number : c.args.now.0 % round_of site.format ≡ (c.args.first - 1) / 8 = omega (arith, from) in
    let is : slice_get c.args.self.now.groups.items (c.args.now.0 % round_of site.format) ≡ Some (Some group) =
    ap (slice_get c.args.self.now.groups.items) number ∙ sound.is in
    c.put_answers.ensures.put (group_within site panel line points cables c.args.now.0 c.args.self.now c.args.states.now group valid stands states is)
    ∙ ap (with_put c.args.answers.now) (sym (group_asked site panel line points cables c.args.now.0 c.args.self.now c.args.states.now group
    valid stands states is (sound.sound.whole site panel line (cables line) stands) (sound.sound.unshorted site panel line (cables line) stands)))

pub loop-address-preserved : goal.loop-address-preserved
loop-address-preserved c =
    let address = c.loop-address.address in
    let first = c.args.first in
    let count : address + 1 - first ≡ (address - first) + 1 = omega arith in
    record {
      few = rw count (elim c.match-index.branch [
        | in-Some-index w ↦ got_more _ _ _ _ _ c.loop-address.invariant.few (w.answers-is ∙ w.put.ensures)
        | in_default-index w ↦ got_same _ _ _ _ c.loop-address.invariant.few w.answers-is
      ]);
      put = λ site panel line points cables valid stands states from.
          let f = answer_from site panel points cables c.args.now.0 line in
          let so_far = c.loop-address.invariant.put site panel line points cables valid stands states from in
          let span : range_with_len first (address - first) ++ address ∷ [] ≡ range_with_len first (address + 1 - first) =
          sym (ap (range_with_len first) count ∙ range-more first (address - first) ∙ ap (λ k. range_with_len first (address - first) ++ k ∷ [])
          (omega arith)) in
          let within : address - 1 < length c.args.self.now.points.items = omega arith in
          let size = stands.points.size in
          let there : point_at site panel line address ≡ c.index.result.now =
          sym (stands.points.each address (omega arith) (omega arith)) ∙ read_at c.args.self.now.points.items (address - 1) c.index.result.now None
          within c.index.ensures in
          let asked : f address ≡ option_map (answer_of site panel points cables c.args.now.0 line address) c.index.result.now =
          is_asked_here site panel points cables c.args.now.0 line address
          (group_of (c.args.now.0 % round_of site.format) first address from (omega arith) (omega arith))
          ∙ ap (option_map (answer_of site panel points cables c.args.now.0 line address)) there in
          elim c.match-index.branch [
            | in-Some-index w ↦ (let point = w.in-Some-index.point in
                let at : point_at site panel line address ≡ Some point = there ∙ w.in-Some-index.is in
                let known = (point_there site panel line address point at).within in
                let state = w.at.ensures ∙ states.each point known in
                let heard = w.heard-heard.ensures site panel line (cables line) stands (on_loop site panel line address point valid at)
                ∙ ap (λ s. heard_of s (is_reached_on (loop_of site panel line) (cables line) address)) state in
                let answer : f address ≡ Some (record { stamp = c.args.now; point = point; heard = w.heard-heard.result }) =
                asked ∙ ap (option_map (answer_of site panel points cables c.args.now.0 line address)) w.in-Some-index.is ∙ ap
                (λ h. Some (record { stamp = c.args.now; point = point; heard = h })) (sym heard) in
                put_some f address (range_with_len first (address - first)) _ _ _ so_far _ answer (w.answers-is ∙ w.put.ensures)
                ∙ ap (λ places. with_put c.args.answers.now (filter_map f places)) span)
            | in_default-index w ↦
                put_none f address (range_with_len first (address - first)) _ _ _ so_far
                (asked ∙ ap (option_map (answer_of site panel points cables c.args.now.0 line address)) w.in_default-index.is) w.answers-is
                ∙ ap (λ places. with_put c.args.answers.now (filter_map f places)) span
          ];
    }

pub returns-clause-put : goal.returns-clause-put
returns-clause-put c site panel line points cables valid stands states from =
    let all : c.loop-address.address - c.args.first ≡ 8 = omega arith in
    let put = rw (all, from) at (c.loop-address.invariant.put site panel line points cables valid stands states from) in
    put ∙ ap (with_put c.args.answers.now) (sym (asked_window site panel points cables c.args.now.0 line valid.forms.format.0))
