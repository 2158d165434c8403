use Rattle.std.proofs.Common.{◌≡◌, ◌≤◌, ◌+◌}
use Rattle.face_text.specs.Holding.{Moves}
use Rattle.face_text.specs.Lists.{begun_after, group_items, listed}
use Rattle.face_text.specs.NextNames.{AreNamedBehind}
use Rattle.face_text.proofs.face_items.FaceItems.push_group.Given as goal

-- the items of the first numbers were put, and the names of those that come stand behind what is passed
abbrev pub invariant-loop-place : goal.invariant-loop-place
invariant-loop-place g l =
    record {
      text :
          Moves l.initial.held l.held (g.K.Stream.written l.initial.out) (g.K.Stream.written l.out)
          (listed l.initial.begun (group_items l.self.site.now l.self.face.now l.group l.place));
      begun : l.begun ≡ begun_after l.initial.begun (group_items l.self.site.now l.self.face.now l.group l.place);
      passed : AreNamedBehind l.passed l.self.site.now l.self.face.now.panel l.group (l.place + 1);
      counted : g.K.Stream.write_faults l.initial.out ≤ g.K.Stream.write_faults l.out;
      left : g.K.Stream.left l.out ≡ g.K.Stream.left l.initial.out;
      reads : g.K.Stream.read_faults l.out ≡ g.K.Stream.read_faults l.initial.out;
    }
