use Rattle.std.proofs.Common.{◌<◌, ◌++◌, ◌∷◌, [], ◌∙◌, length, map, ap, arith}
use Rattle.std.specs.List.{range_with_len}
use Rattle.answer_lanes.proofs.Moving.{with_value}
use Rattle.answer_lanes.proofs.Expanded.{put_next, put_so_far}
use Rattle.answer_lanes.proofs.run.Run.put_all.Goals as goal

pub loop-place-preserved : goal.loop-place-preserved
loop-place-preserved g c =
    let item_at = g.S.Several.item_at in
    let run = c.args.self.now in
    let l = c.loop-place in
    let room = c.requires.room in
    let so_far = put_so_far item_at run.first run.taken l.place l.auto.place c.args.into.now.items l.into.items l.invariant.put in
    let less = c.loop-place-test.true in
    let fits : length l.into.items < 32 = omega (arith, so_far, room, less) in
    let pushed = with_value c.try_push-room.result (c.try_push-room.ensures.variant.1 fits) c.try_push-room.ensures.ok in
    record {
      put = put_next item_at run.first run.taken l.place l.auto.place c.args.into.now.items l.into.items l.invariant.put c.try_push-room.new.self.items
          (pushed ∙ ap (λ x. l.into.items ++ x ∷ []) c.item.ensures);
      within = omega (arith, less);
    }

pub returns : goal.returns
returns g c =
    let run = c.args.self.now in
    let past = c.loop-place-test.false in
    let within = c.loop-place.invariant.within in
    c.loop-place.invariant.put
    ∙ ap (λ n. c.args.into.now.items ++ map (g.S.Several.item_at run.first) (range_with_len run.taken n)) (omega (arith, past, within))
