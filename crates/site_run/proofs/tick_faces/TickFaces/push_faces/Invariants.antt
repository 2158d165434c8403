use Rattle.std.proofs.Common.{◌≡◌, ◌≤◌, take}
use Rattle.face_text.specs.Holding.{Moves}
use Rattle.face_text.specs.Timelines.{faces_text}
use Rattle.site_run.proofs.tick_faces.TickFaces.push_faces.Given as goal

-- the lines of the first panels were put
abbrev pub invariant-loop-place : goal.invariant-loop-place
invariant-loop-place g l =
    record {
      text :
          Moves l.initial.held l.held (g.K.Stream.written l.initial.out) (g.K.Stream.written l.out)
          (faces_text l.self.site.now (take l.place l.self.before.now) (take l.place l.self.after.now));
      left : g.K.Stream.left l.out ≡ g.K.Stream.left l.initial.out;
      reads : g.K.Stream.read_faults l.out ≡ g.K.Stream.read_faults l.initial.out;
      counted : g.K.Stream.write_faults l.initial.out ≤ g.K.Stream.write_faults l.out;
    }
