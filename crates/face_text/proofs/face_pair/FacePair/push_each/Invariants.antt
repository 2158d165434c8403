use Rattle.std.proofs.Common.{◌≡◌, ◌≤◌, take}
use Rattle.face_text.specs.Changes.{groups_text}
use Rattle.face_text.specs.Holding.{Moves}
use Rattle.face_text.proofs.face_pair.FacePair.push_each.Given as goal

-- the lines of the first groups were put
abbrev pub invariant-loop-group : goal.invariant-loop-group
invariant-loop-group g l =
    record {
      text :
          Moves l.initial.held l.held (g.K.Stream.written l.initial.out) (g.K.Stream.written l.out)
          (groups_text l.self.site.now l.self.before.now l.self.after.now (take l.group-index l.groups));
      counted : g.K.Stream.write_faults l.initial.out ≤ g.K.Stream.write_faults l.out;
      left : g.K.Stream.left l.out ≡ g.K.Stream.left l.initial.out;
      reads : g.K.Stream.read_faults l.out ≡ g.K.Stream.read_faults l.initial.out;
    }
