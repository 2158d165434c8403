use Rattle.std.proofs.Common.{◌≡◌, ◌∙◌, ◌+◌, ◌<◌, ◌++◌, ℕ, List, [], ◌∷◌, get_or, map, length-set, ap, sym, arith}
use Rattle.std.specs.List.{range_with_len}
use Rattle.std.proofs.lemmas.List.{take_more_set}
use Rattle.std.proofs.lemmas.List.FromFn.{get_or-map-range_with_len, map-range_with_len_more}
use Rattle.face_text.specs.declared.face.Face.{Face}
use Rattle.panel_rules.specs.Timeline.{face_of}
use Rattle.panel_core.specs.Marks.{before_tick}
use Rattle.site_run.proofs.AlikeFaces.{put_one}
use Rattle.site_run.proofs.Faces.{all_put}
use Rattle.site_run.proofs.SameFaces.{some_read}
use Rattle.site_run.proofs.run.show_now.Goals as goal

-- the face at a place of a list that has one for each panel
read_face : (shown : List Face) (k n : ℕ) (face : Face) (of : ℕ → Face) → shown ≡ map of (range_with_len 1 n) → k < n → get_or shown k face ≡ of (k + 1)
read_face shown k n face of is less =
    ap (λ xs. get_or xs k face) is ∙ get_or-map-range_with_len of 1 n k (k + 1) face (omega (arith, less)) (omega arith)

pub loop-place-preserved : goal.loop-place-preserved
loop-place-preserved c =
    let k = c.loop-place.place in
    let faces = c.loop-place.faces.items in
    let shown = c.args.shown.now in
    let inv = c.loop-place.invariant in
    let room = inv.room in
    let end = c.len-place-end.ensures in
    let less = c.loop-place-test.true in
    let wide = c.requires.before in
    record {
      room = length-set faces k c.put_face.new.face ∙ room;
      within = omega (arith, less, end);
      shown = λ site kept before stands run marked initial last.
          take_more_set faces k c.put_face.new.face (omega (arith, room, less, end))
          ∙ ap (λ xs. xs ++ c.put_face.new.face ∷ []) (inv.shown site kept before stands run marked initial last)
          ∙ ap (λ face. map (λ panel. face_of site kept panel before) (range_with_len 1 k) ++ face ∷ [])
          (c.put_face.ensures.shows site kept before stands run marked
          (read_face shown k site.panels _ (λ panel. face_of site kept panel (before_tick before)) last (omega (arith, less, end, initial))))
          ∙ sym (map-range_with_len_more (λ panel. face_of site kept panel before) 1 k (k + 1) (omega arith));
      alike =
          put_one c.loop-place.alike faces shown k c.put_face.new.face inv.alike (omega (arith, room, less, end)) c.put_face.new.alike
          (omega (arith, room, less, end))
          (λ marked. some_read shown k c.put_face.new.face _ (omega (arith, wide, less, end)) (c.put_face.ensures.alike marked));
    }

pub returns-clause-shows : goal.returns-clause-shows
returns-clause-shows c site kept before stands run marked room last =
    let inv = c.loop-place.invariant in
    all_put c.loop-place.faces.items (λ panel. face_of site kept panel before) c.loop-place.place site.panels inv.room inv.within room
    (omega (arith, c.loop-place-test.false, c.len-place-end.ensures)) (inv.shown site kept before stands run marked room last)
