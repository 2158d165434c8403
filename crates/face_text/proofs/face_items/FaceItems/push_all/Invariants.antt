use Rattle.std.proofs.Common.{◌≡◌, ◌≤◌, false, take}
use Rattle.std.specs.List.{flat_map}
use Rattle.face_text.specs.Holding.{Moves}
use Rattle.face_text.specs.Lists.{begun_after, items_in, listed}
use Rattle.face_text.specs.Slots.{page}
use Rattle.face_text.proofs.face_items.FaceItems.push_all.Given as goal

-- the items of the first groups were put
abbrev pub invariant-loop-group : goal.invariant-loop-group
invariant-loop-group g l =
    record {
      text :
          Moves l.initial.held l.held (g.K.Stream.written l.initial.out) (g.K.Stream.written l.out)
          (listed false (flat_map (items_in l.self.site.now l.self.face.now l.self.list) (take l.group-index page)));
      begun : l.begun ≡ begun_after false (flat_map (items_in l.self.site.now l.self.face.now l.self.list) (take l.group-index page));
      counted : g.K.Stream.write_faults l.initial.out ≤ g.K.Stream.write_faults l.out;
      left : g.K.Stream.left l.out ≡ g.K.Stream.left l.initial.out;
      reads : g.K.Stream.read_faults l.out ≡ g.K.Stream.read_faults l.initial.out;
    }
