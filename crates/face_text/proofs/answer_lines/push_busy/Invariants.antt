use Rattle.std.proofs.Common.{◌≡◌, ◌≤◌, ◌-◌, slice_index}
use Rattle.std.specs.List.{flat_map, range_with_len}
use Rattle.face_text.specs.Answers.{busy_line}
use Rattle.face_text.specs.Holding.{Moves}
use Rattle.face_text.proofs.answer_lines.push_busy.Given as goal

-- the lines of the first panels were put
abbrev pub invariant-loop-place : goal.invariant-loop-place
invariant-loop-place g l =
    record {
      text :
          Moves l.initial.held l.held (g.K.Stream.written l.initial.out) (g.K.Stream.written l.out)
          (flat_map (λ panel. busy_line panel (slice_index l.busy (panel - 1))) (range_with_len 1 l.place));
      counted : g.K.Stream.write_faults l.initial.out ≤ g.K.Stream.write_faults l.out;
      left : g.K.Stream.left l.out ≡ g.K.Stream.left l.initial.out;
      reads : g.K.Stream.read_faults l.out ≡ g.K.Stream.read_faults l.initial.out;
    }
