use Rattle.std.proofs.Common.{◌∙◌, ◌+◌, ◌++◌, [], ◌∷◌, map, length-set, ap, sym, arith}
use Rattle.std.specs.List.{range_with_len}
use Rattle.std.proofs.lemmas.List.{take_more_set}
use Rattle.std.proofs.lemmas.List.FromFn.{map-range_with_len_more}
use Rattle.panel_rules.specs.Timeline.{face_of}
use Rattle.site_run.proofs.Faces.{all_put}
use Rattle.site_run.proofs.run.show.Goals as goal

pub loop-place-preserved : goal.loop-place-preserved
loop-place-preserved c =
    let k = c.loop-place.place in
    let faces = c.loop-place.faces.items in
    let inv = c.loop-place.invariant in
    let room = inv.room in
    let end = c.len-place-end.ensures in
    let less = c.loop-place-test.true in
    record {
      room = length-set faces k c.face.result ∙ room;
      within = omega (arith, less, end);
      shown = λ site kept before stands run.
          take_more_set faces k c.face.result (omega (arith, room, less, end))
          ∙ ap (λ xs. xs ++ c.face.result ∷ []) (inv.shown site kept before stands run)
          ∙ ap (λ face. map (λ panel. face_of site kept panel before) (range_with_len 1 k) ++ face ∷ []) (c.face.ensures.shown site kept before stands run)
          ∙ sym (map-range_with_len_more (λ panel. face_of site kept panel before) 1 k (k + 1) (omega arith));
    }

pub returns-clause-shows : goal.returns-clause-shows
returns-clause-shows c site kept before stands run room =
    let inv = c.loop-place.invariant in
    all_put c.loop-place.faces.items (λ panel. face_of site kept panel before) c.loop-place.place site.panels inv.room inv.within room
    (omega (arith, c.loop-place-test.false, c.len-place-end.ensures)) (inv.shown site kept before stands run)
